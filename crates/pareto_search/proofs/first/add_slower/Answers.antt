use Rattle.std.proofs.Common.{◌≡◌, List, [], ◌∷◌, ◌+◌, ◌++◌, append_assoc, take, sym, ap, ◌∙◌, subst, arith}
use Rattle.std.proofs.lemmas.List.{append-nil, take_all, take_more}
use Rattle.walks.specs.declared.telling.Telling.{Telling}
use Rattle.pareto_search.specs.inside.Firsts.{IsSlower}
use Rattle.pareto_search.proofs.first.add_slower.Goals as goal

pub loop-telling-init : goal.loop-telling-init
loop-telling-init c = record {
  searched = c.requires;
  added = λ lattice ts is. subst (λ (xs : List Telling). IsSlower lattice c.args.due xs c.args.slower.now) (sym (append-nil ts)) is;
}

pub loop-telling-preserved : goal.loop-telling-preserved
loop-telling-preserved c =
    let item : Telling = c.telling-item.result in
    let more : take (c.loop-telling.telling-index + 1) c.args.tellings.now ≡ take c.loop-telling.telling-index c.args.tellings.now ++ item ∷ []
    = take_more c.args.tellings.now c.loop-telling.telling-index item (omega arith)
    ∙ ap (λ (x : Telling). take c.loop-telling.telling-index c.args.tellings.now ++ x ∷ []) (sym c.telling-item.is) in
    record {
      searched = c.add_one.ensures.searched;
      added = λ lattice ts is.
          subst (λ (xs : List Telling). IsSlower lattice c.args.due xs c.add_one.new.slower)
          (append_assoc ts (take c.loop-telling.telling-index c.args.tellings.now) (item ∷ []) ∙ ap (λ (xs : List Telling). ts ++ xs) (sym more))
          (c.in_ok-add_one.ensures.added lattice (ts ++ take c.loop-telling.telling-index c.args.tellings.now) (c.loop-telling.invariant.added lattice ts is));
    }

pub returns : goal.returns
returns c = λ lattice ts is.
    subst (λ (xs : List Telling). IsSlower lattice c.args.due (ts ++ xs) c.loop-telling.slower) (take_all c.loop-telling.telling-index c.args.tellings.now (omega arith)) (c.loop-telling.invariant.added lattice ts is)
