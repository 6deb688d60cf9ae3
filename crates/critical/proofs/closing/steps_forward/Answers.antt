use Rattle.std.proofs.Common.{ℕ, ◌+◌, ◌-◌, length, arith}
use Rattle.critical.specs.inside.Trails.{met_at, lowered_firing, steps_of}
use Rattle.critical.proofs.WaysTurnToCycles.{passes-rise}
use Rattle.critical.proofs.FiringsCanBeLowered.{steps-next}
use Rattle.critical.proofs.closing.steps_forward.Goals as goal

pub lowered-requires-clause-second : goal.lowered-requires-clause-second
lowered-requires-clause-second g c = c.requires.again.way.second (c.loop-i.i - 1) (omega (arith, c.loop-i.auto.i))

pub lowered-requires-clause-before : goal.lowered-requires-clause-before
lowered-requires-clause-before g c =
    passes-rise (g.F.Firing.net c.args.net.now) c.args.table.now c.requires.table (met_at c.args.met.now) (length c.args.met.now - 1) c.requires.again.way (c.loop-i.i - 1) (length c.args.met.now - 1)
    (omega (arith, c.loop-i.auto.i)) (omega arith)

pub lowered-requires-clause-enough : goal.lowered-requires-clause-enough
lowered-requires-clause-enough g c = c.requires.least.all (c.loop-i.i - 1) (omega (arith, c.loop-i-test.true)) (omega (arith, c.loop-i.auto.i, c.loop-i-test.true))

pub loop-i-preserved : goal.loop-i-preserved
loop-i-preserved g c =
    let at = λ (i : ℕ). lowered_firing (g.F.Firing.net c.args.net.now) c.args.table.now (met_at c.args.met.now (length c.args.met.now - 1)).passes c.args.rounds (met_at c.args.met.now i) in
    let channel = λ (i : ℕ). (met_at c.args.met.now (i + 1)).channel in
    let pushed = rw c.lowered.ensures at c.in_ok-push.ensures.ok in
    record {
      late = omega (arith, c.loop-i-test.true);
      steps = steps-next at channel c.args.from c.loop-i.i c.loop-i.steps c.push.new.self (steps_of at channel c.args.from (length c.args.met.now - 1 - c.args.from)) c.loop-i-test.true c.loop-i.invariant.steps pushed;
    }
