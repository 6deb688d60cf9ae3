use Rattle.std.proofs.Common.{◌-◌, length, refl, arith}
use Rattle.critical.specs.inside.Trails.{met_at}
use Rattle.critical.proofs.WaysTurnToCycles.{some-round, passes-rise}
use Rattle.critical.proofs.FiringsCanBeLowered.{least-first, least-next, least-all}
use Rattle.critical.proofs.closing.least_rounds.Goals as goal

pub nonzero_div-least : goal.nonzero_div-least
nonzero_div-least g c =
    rw c.round.ensures (some-round (g.F.Firing.net c.args.net.now) c.args.table.now c.requires.table (met_at c.args.met.now (length c.args.met.now - 1)).firing
    (c.requires.again.way.second (length c.args.met.now - 1) (omega arith)))

pub loop-i-init : goal.loop-i-init
loop-i-init g c =
    least-first (g.F.Firing.net c.args.net.now) c.args.table.now c.args.met.now c.args.from (met_at c.args.met.now (length c.args.met.now - 1)).passes _ c.requires.again.later refl
    (some-round (g.F.Firing.net c.args.net.now) c.args.table.now c.requires.table (met_at c.args.met.now (length c.args.met.now - 1)).firing (c.requires.again.way.second (length c.args.met.now - 1) (omega arith)))
    (rw c.round.ensures refl)

pub raised-requires-clause-second : goal.raised-requires-clause-second
raised-requires-clause-second g c = c.requires.again.way.second c.loop-i.i (omega (arith, c.loop-i-test.true))

pub raised-requires-clause-before : goal.raised-requires-clause-before
raised-requires-clause-before g c =
    passes-rise (g.F.Firing.net c.args.net.now) c.args.table.now c.requires.table (met_at c.args.met.now) (length c.args.met.now - 1) c.requires.again.way c.loop-i.i (length c.args.met.now - 1)
    (omega (arith, c.loop-i-test.true)) (omega arith)

pub loop-i-preserved : goal.loop-i-preserved
loop-i-preserved g c =
    least-next (g.F.Firing.net c.args.net.now) c.args.table.now c.args.met.now c.args.from (met_at c.args.met.now (length c.args.met.now - 1)).passes c.loop-i.least _ c.min-least.result c.loop-i.i c.loop-i.invariant
    c.loop-i.auto.i (omega (arith, c.loop-i-test.true))
    (some-round (g.F.Firing.net c.args.net.now) c.args.table.now c.requires.table (met_at c.args.met.now c.loop-i.i).firing (c.requires.again.way.second c.loop-i.i (omega (arith, c.loop-i-test.true))))
    (rw (c.raised.ensures, c.round-in-loop-i.ensures) refl) c.min-least.ensures

pub returns : goal.returns
returns g c =
    least-all (g.F.Firing.net c.args.net.now) c.args.table.now c.args.met.now c.args.from (met_at c.args.met.now (length c.args.met.now - 1)).passes c.loop-i.least c.loop-i.i c.loop-i.invariant (omega (arith, c.loop-i-test.false))
