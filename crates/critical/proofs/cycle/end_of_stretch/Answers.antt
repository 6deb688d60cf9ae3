use Rattle.std.proofs.Common.{◌+◌, refl, arith}
use Rattle.std.proofs.lemmas.Bool.{iff_false}
use Rattle.critical.specs.Stretches.{steps_in}
use Rattle.critical.proofs.ChainsSplitAndJoin.{follows-next, follows-stop, follows-all}
use Rattle.critical.proofs.StretchesGiveSteps.{stretch-split, stretch-end}
use Rattle.critical.proofs.cycle.end_of_stretch.Goals as goal

pub returns-then-not-is_step : goal.returns-then-not-is_step
returns-then-not-is_step g c =
    follows-stop (g.F.Firing.net c.args.net.now) c.args.from.last (steps_in c.args.stretch) c.loop-behind.behind c.loop-behind.end.last c.loop-behind.invariant.0 c.loop-behind.invariant.2 c.step-step.result
    (stretch-split c.args.stretch c.loop-behind.behind c.step-step.result (omega (arith, c.loop-behind-test.true)) c.step-step.ensures) (iff_false c.is_step.ensures c.if-not-is_step.true)

pub loop-behind-preserved : goal.loop-behind-preserved
loop-behind-preserved g c = (
  c.loop-behind.invariant.0 + c.time_at.result,
  omega (arith, c.loop-behind.invariant.1),
  follows-next (g.F.Firing.net c.args.net.now) c.args.from.last (steps_in c.args.stretch) c.loop-behind.behind c.loop-behind.end.last c.loop-behind.invariant.0 c.loop-behind.invariant.2 c.step-step.result
      (stretch-split c.args.stretch c.loop-behind.behind c.step-step.result (omega (arith, c.loop-behind-test.true)) c.step-step.ensures) (c.if-not-is_step.ensures.0 refl) c.time_at.result c.time_at.ensures.time c.time_at.ensures.short,
)

pub returns : goal.returns
returns g c =
    let walk = c.loop-behind.invariant.2 in
    let all = follows-all (g.F.Firing.net c.args.net.now) c.args.from.last (steps_in c.args.stretch) c.loop-behind.behind c.loop-behind.end.last c.loop-behind.invariant.0 walk (stretch-end c.args.stretch c.loop-behind.behind (omega (arith, c.loop-behind-test.false))) in
    (all.0, all.1, omega (arith, c.loop-behind.invariant.1, all.2), omega (arith, c.loop-behind.invariant.1, walk.small))
