use Rattle.std.proofs.Common.{subst, sym, arith}
use Rattle.critical.specs.declared.cycle.FiringNo.{FiringNo}
use Rattle.critical.specs.Cycles.{IsChain}
use Rattle.critical.specs.Stretches.{steps_in}
use Rattle.critical.proofs.StretchesGiveSteps.{chain-stops, goes-on_more}
use Rattle.critical.proofs.cycle.end_of_chain.Goals as goal

pub returns-in-None : goal.returns-in-None
returns-in-None g c =
    chain-stops (g.F.Firing.net c.args.net.now) c.args.from c.args.stretches.now c.loop-stretch.stretch-index c.stretch-item.result (omega (arith, c.loop-stretch-test.true)) (sym c.stretch-item.is)
    (subst (λ (at : FiringNo). ¬ IsChain (g.F.Firing.net c.args.net.now) at (steps_in c.stretch-item.result)) c.loop-stretch.invariant.last c.in-None.ensures)

pub loop-stretch-preserved : goal.loop-stretch-preserved
loop-stretch-preserved g c =
    goes-on_more (g.F.Firing.net c.args.net.now) c.args.from c.args.stretches.now c.loop-stretch.stretch-index c.stretch-item.result c.loop-stretch.end.last c.in-Some.farther.last c.loop-stretch.end.time c.in-Some.farther.time
    (omega (arith, c.loop-stretch-test.true)) (sym c.stretch-item.is) c.loop-stretch.invariant c.in-Some.ensures.0 c.in-Some.ensures.1 c.in-Some.ensures.2 c.in-Some.ensures.3
