use Rattle.std.proofs.Common.{◌≡◌}
use Rattle.selftimed.specs.declared.engine.Stage.TheVariants.{Fresh, Running}
use Rattle.event_loops.specs.inside.Collecting.{HasStarts}
use Rattle.event_loops.specs.inside.Going.{Follows, StandsAt}
use Rattle.event_loops.specs.inside.Searching.{NoneApart}
use Rattle.event_loops.proofs.repeat.first_repeat.Given as goal

abbrev pub invariant-events : goal.invariant-events
invariant-events g l = record {
  net : l.lead.net ≡ l.fn.lead.net;
  most : l.lead.most ≡ 4000000;
  stands : StandsAt (g.F.Firing.net l.fn.lead.net.now) l._event l.lead.stage l.lead.moment;
  start : l.lead.stage ≡ Fresh → l.lead.moment ≡ 0;
  collected : HasStarts (g.F.Firing.net l.fn.lead.net.now) l.lead.stage l.lead.moment l.starts;
  none : NoneApart (g.F.Firing.net l.fn.lead.net.now) l.period l._event;
  trail_net : l.trail.net ≡ l.fn.trail.net;
  trail_most : l.trail.most ≡ l.fn.trail.most;
  trail_running : l.trail.stage ≡ Running;
  follows : Follows (g.F.Firing.net l.fn.lead.net.now) l.period l.lead.moment l.trail.moment;
}
