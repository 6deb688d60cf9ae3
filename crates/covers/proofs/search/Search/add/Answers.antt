use Rattle.std.proofs.Common.{List, [], ◌∷◌, ◌++◌, refl, sym, ap, ◌∙◌, subst}
use Rattle.covers.specs.declared.bound.Bound.{Bound}
use Rattle.covers.specs.Bounds.{AreEnough, IsCovered}
use Rattle.covers.proofs.BoundsStayInForce.{covered-added, searched-more}
use Rattle.covers.proofs.search.Search.add.Goals as goal

pub returns-in_err-push-clause-searched : goal.returns-in_err-push-clause-searched
returns-in_err-push-clause-searched c =
    searched-more c.args.self.now _ refl refl refl (λ ks h. subst (λ (bs : List Bound). IsCovered bs c.args.self.now.best ks) (sym c.in_err-push.ensures.items) h)
    (subst (λ (bs : List Bound). AreEnough bs c.args.self.now.best c.args.self.now.acting.items) (sym c.in_err-push.ensures.items) c.requires.searched.acting) c.requires.searched

pub returns-clause-searched : goal.returns-clause-searched
returns-clause-searched c =
    searched-more c.args.self.now _ refl refl refl
    (λ ks h. subst (λ (bs : List Bound). IsCovered bs c.args.self.now.best ks) (sym c.in_ok-push.ensures.items) (covered-added c.args.self.now.bounds.items c.args.bound c.args.self.now.best ks h))
    (subst (λ (bs : List Bound). AreEnough bs c.args.self.now.best c.in_ok-acting.acting.items) (ap (λ (bs : List Bound). bs ++ c.args.bound ∷ []) c.as_slice.ensures.value ∙ sym c.in_ok-push.ensures.items) c.in_ok-acting.ensures)
    c.requires.searched
