use Rattle.std.proofs.Common.{ℕ, ◌<◌}
use Rattle.std.specs.Prelude.{slice_index_or}
use Rattle.pareto_front.specs.Offers.{Covers}
use Rattle.pareto_front.specs.declared.point.Point.{Point}
use Rattle.pareto_front.specs.Points.{offer_of}
use Rattle.pareto_front.proofs.covers.is_covered.Given as goal

abbrev pub invariant-loop-point : goal.invariant-loop-point
invariant-loop-point l = (k : ℕ) (d : Point) → k < l.point-index → Covers (offer_of (slice_index_or l.points k d)) (offer_of l.other) → ⊥
