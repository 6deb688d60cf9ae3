use Rattle.std.proofs.Common.{◌≡◌, ◌++◌, drop}
use Rattle.bounded_scenarios.specs.BoundedFiles.{space_rows}
use Rattle.bounded_scenarios.proofs.bounding.add_spaces.Given as goal

abbrev pub invariant-loop-place : goal.invariant-loop-place
invariant-loop-place l = l.rows ++ space_rows l.channels (drop l.place l.shared) (drop l.place l.rooms) ≡ l.initial.rows ++ space_rows l.channels l.shared l.rooms
