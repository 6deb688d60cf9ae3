use Rattle.std.proofs.Common.{◌≡◌, ◌++◌, drop}
use Rattle.bounded_scenarios.specs.BoundedFiles.{space_shares}
use Rattle.bounded_scenarios.proofs.bounding.bounded_shared.Given as goal

abbrev pub invariant-loop-place : goal.invariant-loop-place
invariant-loop-place l = l.rows ++ space_shares (drop l.place l.shared) (drop l.place l.rooms) ≡ l.shared ++ space_shares l.shared l.rooms
