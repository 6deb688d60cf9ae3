use Rattle.std.proofs.Common.{◌≤◌, arith}
use Rattle.std.specs.Prelude.{slice_index}
use Rattle.circular_waits.proofs.waits.first_short.Goals as goal

pub unreachable-requires : goal.unreachable-requires
unreachable-requires g c =
    let (a, actor, less) = c.requires.blocks.short in
    let whole : slice_index (g.F.Firing.net c.args.net.now).round a ≤ slice_index c.args.counts.now a = c.loop-actor.invariant a (omega (arith, c.loop-actor-test.false, c.actors-actor-end.ensures, actor)) in
    omega (arith, less, whole)
