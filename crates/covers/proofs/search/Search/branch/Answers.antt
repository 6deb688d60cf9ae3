use Rattle.std.proofs.Common.{◌≡◌, List, length, refl, sym, ap, ◌∙◌, subst}
use Rattle.std.specs.Prelude.{All}
use Rattle.std.proofs.lemmas.List.Sorted.{All-permutation}
use Rattle.covers.specs.declared.bound.Bound.{Bound}
use Rattle.covers.specs.declared.search.Search.{Search}
use Rattle.covers.specs.declared.survey.Toll.{Toll}
use Rattle.covers.specs.inside.Keeping.{IsBranched}
use Rattle.covers.specs.inside.Surveys.{IsLeast, IsTollAt}
use Rattle.covers.proofs.NoVectorIsLost.{closed}
use Rattle.covers.proofs.LookedAt.{dear, found, raised-by}
use Rattle.covers.proofs.search.Search.branch.Goals as goal
use Rattle.covers.proofs.search.Search.branch.Goals.{then-rank-node+in_ok-raise, else-rank-node+in_ok-part}

pub returns-in_default-clause-looked : goal.returns-in_default-clause-looked
returns-in_default-clause-looked c =
    let none : length c.args.tolls.items ≡ 0 = sym (ap length c.as_slice.ensures.value) ∙ c.in_default.ensures in
    (refl, refl, found c.args.self.now c.args.node c.args.storage c.args.tolls.items c.requires.proper c.requires.storage c.requires.within c.requires.raised c.requires.enough c.requires.tolls none)

pub least-requires-clause-tolls : goal.least-requires-clause-tolls
least-requires-clause-tolls c =
    let P = λ (bs : List Bound) (ts : List Toll). All (IsTollAt c.args.self.now.lattice bs c.args.self.now.best c.args.node) ts in
    let sorted : All (IsTollAt c.args.self.now.lattice c.args.self.now.bounds.items c.args.self.now.best c.args.node) c.dearest_first.new.tolls.items
    = All-permutation (IsTollAt c.args.self.now.lattice c.args.self.now.bounds.items c.args.self.now.best c.args.node) c.args.tolls.items c.dearest_first.new.tolls.items c.dearest_first.ensures c.requires.tolls.each in
    subst (λ (bs : List Bound). P bs c.as_slice-3.result.now) (sym c.as_slice-2.ensures.value) (subst (P c.args.self.now.bounds.items) (sym c.as_slice-3.ensures.value) sorted)

pub returns-then-least-self-clause-looked : goal.returns-then-least-self-clause-looked
returns-then-least-self-clause-looked c =
    let least : IsLeast c.args.self.now.lattice c.args.self.now.bounds.items c.args.self.now.best c.args.node c.in_ok-least.least
    = subst (λ (bs : List Bound). IsLeast c.args.self.now.lattice bs c.args.self.now.best c.args.node c.in_ok-least.least) c.as_slice-2.ensures.value c.in_ok-least.ensures in
    closed c.args.self.now _ c.args.node refl c.requires.least (dear c.args.self.now.lattice c.args.self.now.bounds.items c.args.self.now.best c.args.node c.in_ok-least.least least c.if-least-self.true)

pub returns-clause-looked : goal.returns-clause-looked
returns-clause-looked c =
    let P = λ (t : Search). IsBranched c.args.self.now c.args.node t in
    let least : IsLeast c.args.self.now.lattice c.args.self.now.bounds.items c.args.self.now.best c.args.node c.in_ok-least.least
    = subst (λ (bs : List Bound). IsLeast c.args.self.now.lattice bs c.args.self.now.best c.args.node c.in_ok-least.least) c.as_slice-2.ensures.value c.in_ok-least.ensures in
    elim c.if-rank-node.branch [
      | then-rank-node+in_ok-raise w ↦ subst P (sym w.self-is)
          (raised-by c.args.self.now w.raise.new.self c.args.node c.in_ok-least.least c.rank-rank.result w.in_ok-raise.ensures.opened c.requires.proper c.requires.least c.rank-rank.ensures w.if-rank-node.true least)
      | else-rank-node+in_ok-part w ↦ subst P (sym w.self-is) w.in_ok-part.ensures.looked
    ]
