use Rattle.std.proofs.Common.{◌≡◌, ◌-◌, ◌≤◌}
use Rattle.selftimed.specs.declared.engine.Stage.TheVariants.{Running}
use Rattle.loops.specs.StartRows.{AreStarts}
use Rattle.event_loops.proofs.beginning.starts_until.Given as goal

abbrev pub invariant-events : goal.invariant-events
invariant-events g l = record {
  net : l.engine.net.now ≡ l.wired.net.now;
  most : l.engine.most ≡ 4000000;
  running : l.engine.stage ≡ Running;
  starts : AreStarts (g.F.Firing.net l.wired.net.now) l.engine.moment l.rows.items;
  within : l.engine.moment ≤ l.event;
}

abbrev pub decreases-events : goal.decreases-events
decreases-events g l = l.event - l.engine.moment
