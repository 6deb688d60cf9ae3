use Rattle.std.proofs.Common.{◌≡◌, ℕ, ◌+◌, ◌-◌, ◌≤◌, ◌<◌, []}
use Rattle.std.specs.Prelude.{slice_index_or}
use Rattle.sd_base.specs.Schedules.{count_of}
use Rattle.sd_base.specs.SelfTimed.{earliest}
use Rattle.loops.specs.Settling.{IsRowLike, IsRowOver, IsRowSettled}
use Rattle.event_loops.proofs.entry.entry_of.Given as goal

abbrev pub invariant-loop-actor : goal.invariant-loop-actor
invariant-loop-actor g l = record {
  settled : (a m : ℕ) → a < l.actor → m ≡ count_of l.trace.starts.items a - count_of (earliest (g.F.Firing.net l.net) (l.pair.earlier + 1)) a →
      IsRowSettled (g.F.Firing.net l.net) a (slice_index_or l.trace.starts.items a []) m (l.pair.later - l.pair.earlier) l.from;
  first : (x : ℕ) → ((a m j : ℕ) → a < l.actor → m ≡ count_of l.trace.starts.items a - count_of (earliest (g.F.Firing.net l.net) (l.pair.earlier + 1)) a → j < count_of l.trace.starts.items a →
      (IsRowLike (slice_index_or l.trace.starts.items a []) m (l.pair.later - l.pair.earlier) j → ⊥) → IsRowOver (g.F.Firing.net l.net) a (slice_index_or l.trace.starts.items a []) m (l.pair.later - l.pair.earlier) x j) → l.from ≤ x;
}
