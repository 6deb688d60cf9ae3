use Rattle.std.specs.Prelude.{slice_index}
use Rattle.liveness.proofs.LacksAreNamed.{NamesBelow}
use Rattle.liveness.proofs.round.lacking_channels.Given as goal

abbrev pub invariant-loop-actor : goal.invariant-loop-actor
invariant-loop-actor g l = NamesBelow (g.F.Firing.net l.wired.net.now) (slice_index l.counts) l.actor l.lacks.items
