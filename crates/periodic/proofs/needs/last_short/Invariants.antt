use Rattle.std.proofs.Common.{◌-◌, ◌<◌, ◌≤◌}
use Rattle.sd_base.specs.Net.{channel_at, total}
use Rattle.periodic.proofs.needs.last_short.Given as goal

-- one number of phases makes too few, the other enough
abbrev pub invariant-loop-enough : goal.invariant-loop-enough
invariant-loop-enough g l = record {
  apart : l.short < l.enough;
  within : l.enough ≤ l.phases;
  short : total (channel_at (g.F.Firing.net l.net) l.channel).made l.short < l.wanted;
  enough : l.wanted ≤ total (channel_at (g.F.Firing.net l.net) l.channel).made l.enough;
}

abbrev pub decreases-loop-enough : goal.decreases-loop-enough
decreases-loop-enough g l = l.enough - l.short
