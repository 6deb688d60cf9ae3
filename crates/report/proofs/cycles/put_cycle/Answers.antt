use Rattle.std.proofs.Common.{◌∙◌}
use Rattle.report.proofs.OneMoreElement.{cycle_end}
use Rattle.report.proofs.cycles.put_cycle.Goals as goal

pub returns : goal.returns
returns g c =
    cycle_end c.args.graph.now (g.F.Firing.net c.args.net.now) c.args.cycle.now _ _ _ c.as_slice-step-items.result.now c.loop-step.step-index (c.as_slice-step-items.ensures ∙ c.in_ok-steps.ensures) c.loop-step-test.false c.in_ok-put_header.ensures
    c.loop-step.invariant
