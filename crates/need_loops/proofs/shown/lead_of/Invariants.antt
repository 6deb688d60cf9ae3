use Rattle.std.proofs.Common.{◌<◌, length}
use Rattle.need_loops.proofs.shown.lead_of.Given as goal

abbrev pub invariant-loop-actor : goal.invariant-loop-actor
invariant-loop-actor g l = l.lead < length (g.F.Firing.net l.net).times
