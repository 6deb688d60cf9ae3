use Rattle.std.proofs.Common.{◌≡◌, ◌-◌}
use Rattle.selftimed.specs.declared.engine.Stage.TheVariants.{Running}
use Rattle.event_loops.specs.inside.Going.{Follows}
use Rattle.event_loops.proofs.repeat.follow.Given as goal

abbrev pub invariant-events : goal.invariant-events
invariant-events g l = record {
  net : l.trail.net ≡ l.fn.trail.net;
  most : l.trail.most ≡ l.fn.trail.most;
  running : l.trail.stage ≡ Running;
  follows : Follows (g.F.Firing.net l.fn.trail.net.now) l.period l.end l.trail.moment;
}

abbrev pub decreases-events : goal.decreases-events
decreases-events g l = l.end - l.trail.moment
