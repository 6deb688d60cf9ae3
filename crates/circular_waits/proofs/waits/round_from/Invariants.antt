use Rattle.std.proofs.Common.{◌≢◌, ◌-◌, ◌<◌, length}
use Rattle.circular_waits.specs.inside.Following.{IsFollowed}
use Rattle.circular_waits.proofs.waits.round_from.Given as goal

-- the way so far has not come back
abbrev pub invariant-round : goal.invariant-round
invariant-round g l = record {
  followed : IsFollowed (g.F.Firing.net l.net) l.lacks l.start l.channels.items l.actor;
  away : 0 < length l.channels.items → l.actor ≢ l.start;
}

abbrev pub decreases-round : goal.decreases-round
decreases-round g l = length (g.F.Firing.net l.net).times - length l.channels.items
