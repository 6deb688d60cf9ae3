use Rattle.std.proofs.Common.{◌+◌, ◌≤◌, length}
use Rattle.liveness.specs.inside.Looks.{AreFlags}
use Rattle.liveness.proofs.LooksRunOut.{TargetsSoFar}
use Rattle.liveness.proofs.flags.Flags.flag_targets.Given as goal

abbrev pub invariant-loop-channel : goal.invariant-loop-channel
invariant-loop-channel g l = record {
  flags : AreFlags (g.F.Firing.net l.net) l.self.flagged.items l.self.stack.items;
  targets : TargetsSoFar (g.F.Firing.net l.net) l.actor l.channels l.initial.self.flagged.items l.self.flagged.items l.channel-index;
  few : length l.self.stack.items ≤ length l.initial.self.stack.items + l.channel-index;
}
