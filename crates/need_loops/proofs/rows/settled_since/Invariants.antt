use Rattle.std.proofs.Common.{◌≡◌, ℕ, ◌-◌, ◌*◌, ◌≤◌, ◌<◌, []}
use Rattle.std.specs.Prelude.{slice_index, slice_index_or}
use Rattle.sd_base.specs.Schedules.{count_of}
use Rattle.loops.specs.StartRows.{AreBy}
use Rattle.loops.specs.Settling.{IsRowLike, IsRowOver, IsRowSettled}
use Rattle.need_loops.proofs.rows.settled_since.Given as goal

abbrev pub invariant-loop-actor : goal.invariant-loop-actor
invariant-loop-actor g l = record {
  long : (a : ℕ) → a < l.actor → l.rounds * slice_index (g.F.Firing.net l.net).round a ≤ count_of l.starts a;
  counts : (a : ℕ) → a < l.actor → AreBy (slice_index_or l.starts a []) l.pair.earlier (count_of l.starts a - l.rounds * slice_index (g.F.Firing.net l.net).round a);
  settled : (a m : ℕ) → a < l.actor → m ≡ l.rounds * slice_index (g.F.Firing.net l.net).round a → IsRowSettled (g.F.Firing.net l.net) a (slice_index_or l.starts a []) m (l.pair.later - l.pair.earlier) l.from;
  first : (x : ℕ) → ((a m j : ℕ) → a < l.actor → m ≡ l.rounds * slice_index (g.F.Firing.net l.net).round a → j < count_of l.starts a →
      (IsRowLike (slice_index_or l.starts a []) m (l.pair.later - l.pair.earlier) j → ⊥) → IsRowOver (g.F.Firing.net l.net) a (slice_index_or l.starts a []) m (l.pair.later - l.pair.earlier) x j) → l.from ≤ x;
}
