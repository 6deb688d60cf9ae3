use Rattle.std.proofs.Common.{◌≡◌, ◌*◌, ◌≤◌}
use Rattle.sd_base.specs.Net.{channel_at, total}
use Rattle.firing.proofs.net.Firing.made_before.Given as goal

abbrev pub invariant-loop-phase : goal.invariant-loop-phase
invariant-loop-phase g l = record {
  sum : l.sum ≡ total (channel_at (g.Self.Firing.net l.self) l.channel).made l.phase;
  small : l.sum ≤ l.phase * 1000000;
}
