use Rattle.std.proofs.Common.{◌-◌, ◌<◌, ◌≤◌, length}
use Rattle.sd_base.specs.Net.{channel_at, total}
use Rattle.firing.proofs.sums.firings_making.Given as goal

-- the one makes too few, the other enough
abbrev pub invariant-loop-enough : goal.invariant-loop-enough
invariant-loop-enough g l = record {
  apart : l.few < l.enough;
  turn : l.enough ≤ length (channel_at (g.F.Firing.net l.net) l.channel).made;
  short : total (channel_at (g.F.Firing.net l.net) l.channel).made l.few < l.wanted;
  enough : l.wanted ≤ total (channel_at (g.F.Firing.net l.net) l.channel).made l.enough;
}

abbrev pub decreases-loop-enough : goal.decreases-loop-enough
decreases-loop-enough g l = l.enough - l.few
