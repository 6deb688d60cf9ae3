use Rattle.std.proofs.Common.{ℤ, pos, ◌≤ℤ◌, true≢false, sym, subst, ◌∙◌, arith}
use Rattle.std.proofs.lemmas.Int.{ints, to_z-of_z}
use Rattle.automaton.specs.CriticalCycles.{IsStart}
use Rattle.cert_checker.specs.inside.Listed.{AreKeptTo}
use Rattle.cert_checker.proofs.PotentialsFitEdges.{fits, unkept}
use Rattle.cert_checker.proofs.potentials.is_fitting.Goals.{else-potential-lt0-via-then-potential-lt0+else-is_start, else-potential-lt0-via-else-potential-lt0}
use Rattle.cert_checker.proofs.potentials.is_fitting.Goals as goal

pub returns-then-not-is_kept_to : goal.returns-then-not-is_kept_to
returns-then-not-is_kept_to c =
    unkept c.args.graph.now c.args.rate c.args.potentials.now c.args.node c.args.potential c.as_slice-edge-items.result.now c.as_slice-edge-items.ensures c.loop-edge.edge-index _ _ (to_z-of_z _ c.args.potential c.ranges.potential) c.loop-edge-test.true
    (λ kept. true≢false (sym (c.is_kept_to.ensures.1 kept) ∙ c.if-not-is_kept_to.true))

pub returns : goal.returns
returns c =
    let start : IsStart c.args.graph.now c.args.node → pos 0 ≤ℤ c.args.potential = elim c.else-potential-lt0.branch [
      | else-potential-lt0-via-then-potential-lt0+else-is_start w ↦ λ is. absurd (true≢false (sym (w.is_start.ensures.1 is) ∙ w.if-is_start.false))
      | else-potential-lt0-via-else-potential-lt0 w ↦ λ is. (let fits = c.ranges.potential in let test = w.if-potential-lt0.false in grind (arith, ints))
    ] in
    fits c.args.graph.now c.args.rate c.args.potentials.now c.args.node c.args.potential c.as_slice-edge-items.result.now c.as_slice-edge-items.ensures c.loop-edge.edge-index c.loop-edge-test.false start
    (subst (λ (z : ℤ). AreKeptTo c.args.graph.now c.args.rate c.args.potentials.now c.args.node z c.loop-edge.edge-index) (to_z-of_z _ c.args.potential c.ranges.potential) c.loop-edge.invariant)
