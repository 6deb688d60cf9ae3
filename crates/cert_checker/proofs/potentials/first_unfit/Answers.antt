use Rattle.std.proofs.Common.{ℕ, subst, below_more, rules}
use Rattle.std.specs.Prelude.{slice_index_or, pos}
use Rattle.std.proofs.lemmas.Int.{to_z-of_z}
use mir.Syntax.{w128}
use mir.Val.{SFits}
use Rattle.cert_checker.specs.ListedNodes.{FitsAt, IsFitting}
use Rattle.cert_checker.proofs.potentials.first_unfit.Goals as goal

pub loop-place-preserved : goal.loop-place-preserved
loop-place-preserved c =
    let fits : SFits w128 (slice_index_or c.args.potentials.now c.loop-place.place (0, 0, pos 0)).2 = search rules in
    below_more (FitsAt c.args.graph.now c.args.rate c.args.potentials.now) c.loop-place.place c.loop-place.invariant
    (subst (λ (v : ℕ). IsFitting c.args.graph.now c.args.rate c.args.potentials.now v (slice_index_or c.args.potentials.now c.loop-place.place (0, 0, pos 0)).2) c.node_of.ensures
    (subst (IsFitting c.args.graph.now c.args.rate c.args.potentials.now c.node_of.result) (to_z-of_z w128 (slice_index_or c.args.potentials.now c.loop-place.place (0, 0, pos 0)).2 fits)
    (c.is_fitting.ensures.0 c.if-not-is_fitting.false)))
