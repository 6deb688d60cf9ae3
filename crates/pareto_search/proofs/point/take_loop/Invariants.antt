use Rattle.std.proofs.Common.{◌≡◌, ℕ, ◌-◌, ◌≤◌, ◌<◌, length}
use Rattle.std.specs.Prelude.{slice_index_or}
use Rattle.pareto_search.specs.declared.known.Looped.{Looped}
use Rattle.pareto_search.proofs.point.take_loop.Given as goal

abbrev pub invariant-loop-at : goal.invariant-loop-at
invariant-loop-at l = (l.loops.items ≡ l.initial.loops.items) × ((j : ℕ) × (l.at ≤ j) × (j < length l.loops.items) × ((d : Looped) → (slice_index_or l.loops.items j d).place ≡ l.place))

abbrev pub decreases-loop-at : goal.decreases-loop-at
decreases-loop-at l = length l.loops.items - l.at
