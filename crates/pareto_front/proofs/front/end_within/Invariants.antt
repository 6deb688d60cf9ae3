use Rattle.std.proofs.Common.{◌≡◌, ℕ, ◌<◌, ◌≤◌, ◌+◌}
use Rattle.std.specs.Prelude.{slice_index_or}
use Rattle.pareto_front.specs.declared.point.Point.{Point}
use Rattle.pareto_front.proofs.front.end_within.Given as goal

abbrev pub invariant-loop-place : goal.invariant-loop-place
invariant-loop-place l =
    (l.end ≤ l.place)
    × ((k : ℕ) (d : Point) → k + 1 ≡ l.end → (slice_index_or l.points k d).total ≤ l.total)
    × ((k : ℕ) (d : Point) → l.end ≤ k → k < l.place → l.total < (slice_index_or l.points k d).total)
