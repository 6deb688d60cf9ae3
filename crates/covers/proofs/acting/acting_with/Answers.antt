use Rattle.std.proofs.Common.{◌≡◌, [], ◌∷◌, ◌++◌, sym, subst, rules}
use Rattle.covers.specs.Bounds.{AreEnough, StandsAt}
use Rattle.covers.specs.declared.bound.Bound.{Bound}
use Rattle.covers.specs.inside.Leaving.{Dominates}
use Rattle.covers.proofs.FewBoundsSuffice.{enough-added, enough-needless}
use Rattle.covers.proofs.acting.acting_with.Goals as goal

pub returns-then-is_needless : goal.returns-then-is_needless
returns-then-is_needless c =
    let stands : StandsAt c.args.bounds.now c.args.acting.now (λ (other : Bound). Dominates c.args.best.now other c.args.bound.now) = search rules in
    let same : c.in_ok-same.same.items ≡ c.args.acting.now = search rules in
    subst (AreEnough (c.args.bounds.now ++ c.args.bound.now ∷ []) c.args.best.now) (sym same) (enough-needless c.args.bounds.now c.args.best.now c.args.acting.now c.args.bound.now c.requires.enough stands)

pub returns : goal.returns
returns c =
    subst (AreEnough (c.args.bounds.now ++ c.args.bound.now ∷ []) c.args.best.now) (sym c.in_ok-push.ensures.items)
    (enough-added c.args.bounds.now c.args.best.now c.args.acting.now c.in_ok-new.new.items c.args.bound.now c.requires.enough c.in_ok-new.ensures)
