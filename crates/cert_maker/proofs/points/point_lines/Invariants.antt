use Rattle.std.proofs.Common.{◌≡◌, ℕ, ◌<◌, ◌≤◌, length, take, drop}
use Rattle.std.specs.Prelude.{slice_index_or, Contains}
use Rattle.std.specs.List.{AllZip}
use Rattle.pareto_front.specs.declared.point.Point.{Point}
use Rattle.explore.specs.Explorations.{capacities_of}
use Rattle.cert_maker.specs.StorageCertificates.{IsPointLine, schedules_of}
use Rattle.cert_maker.proofs.points.point_lines.Given as goal

-- the points of the schedules that were taken have their lines, and each other one's member stands from the place on
abbrev pub invariant-loop-schedule : goal.invariant-loop-schedule
invariant-loop-schedule l = record {
  count : length l.lines.items ≡ length l.yielded;
  lines : AllZip (IsPointLine l.members) (take (length l.yielded) l.points) l.lines.items;
  schedules : schedules_of l.lines.items ≡ l.yielded;
  left : (k : ℕ) (d : Point) → length l.yielded ≤ k → k < length l.points → Contains (drop l.place (capacities_of l.members)) (slice_index_or l.points k d).capacities.capacities;
}
