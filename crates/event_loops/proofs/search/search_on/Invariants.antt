use Rattle.std.proofs.Common.{◌≡◌, ◌+◌, ◌-◌, ◌≤◌}
use Rattle.sd_base.specs.SelfTimed.{IsEvent}
use Rattle.selftimed.specs.declared.engine.Stage.TheVariants.{Running}
use Rattle.event_loops.specs.inside.Searching.{NoneSince}
use Rattle.event_loops.proofs.search.search_on.Given as goal

abbrev pub invariant-events : goal.invariant-events
invariant-events g l = record {
  net : l.engine.net ≡ l.fn.engine.net;
  most : l.engine.most ≡ l.fn.engine.most;
  running : l.engine.stage ≡ Running;
  ahead : l.checkpoint.moment ≤ l.engine.moment;
  event : IsEvent (g.F.Firing.net l.fn.engine.net.now) l.engine.moment;
  none : NoneSince (g.F.Firing.net l.fn.engine.net.now) l.checkpoint.moment l.engine.moment;
}

abbrev pub decreases-events : goal.decreases-events
decreases-events g l = l.checkpoint.moment + l.checkpoint.moment - l.engine.moment
