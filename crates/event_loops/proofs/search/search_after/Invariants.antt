use Rattle.std.proofs.Common.{◌≡◌, ◌+◌, ◌≤◌}
use Rattle.sd_base.specs.SelfTimed.{IsEvent, events_by, starts_by}
use Rattle.selftimed.specs.declared.engine.Stage.TheVariants.{Running}
use Rattle.event_loops.specs.inside.Searching.{IsWatch, FewBefore}
use Rattle.sd_base.specs.declared.limits.TheConstants.{STARTS}
use Rattle.event_loops.specs.inside.Fingerprinting.{AreFingerprints}
use Rattle.event_loops.specs.inside.Tracing.{IsTrace, AreAllowed}
use Rattle.event_loops.proofs.search.search_after.Given as goal

abbrev pub invariant-loop-event : goal.invariant-loop-event
invariant-loop-event g l = record {
  net : l.engine.net ≡ l.fn.engine.net;
  most : l.engine.most ≡ l.fn.engine.most;
  running : l.engine.stage ≡ Running;
  event : IsEvent (g.F.Firing.net l.fn.engine.net.now) l.engine.moment;
  number : events_by (g.F.Firing.net l.fn.engine.net.now) l.engine.moment ≡ l._event;
  few : FewBefore (g.F.Firing.net l.fn.engine.net.now) l.engine.moment;
  watch : IsWatch (g.F.Firing.net l.fn.engine.net.now) (l.engine.moment + 1) l.watch;
  trace : starts_by (g.F.Firing.net l.fn.engine.net.now) l.engine.moment ≤ STARTS → IsTrace (g.F.Firing.net l.fn.engine.net.now) l.engine.moment l.trace.moments.items l.trace.starts.items;
  allowed : AreAllowed (g.F.Firing.net l.fn.engine.net.now) l.states l.trace.moments.items l.trace.starts.items;
  fingerprints : AreFingerprints (g.F.Firing.net l.fn.engine.net.now) l.engine.moment l.fingerprints.items;
}
