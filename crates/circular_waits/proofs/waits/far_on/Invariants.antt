use Rattle.std.proofs.Common.{◌≡◌}
use Rattle.circular_waits.specs.inside.Following.{after}
use Rattle.circular_waits.proofs.waits.far_on.Given as goal

abbrev pub invariant-loop-step : goal.invariant-loop-step
invariant-loop-step g l = l.actor ≡ after (g.F.Firing.net l.net) l.lacks l._step l.short
