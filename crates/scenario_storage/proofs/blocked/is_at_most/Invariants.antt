use Rattle.std.proofs.Common.{ℕ, ◌<◌}
use Rattle.storage.specs.Distributions.{capacity_at}
use Rattle.scenario_storage.specs.inside.Blocked.{FitsIn}
use Rattle.scenario_storage.proofs.blocked.is_at_most.Given as goal

abbrev pub invariant-loop-place : goal.invariant-loop-place
invariant-loop-place l = (j : ℕ) → j < l.place → FitsIn (capacity_at l.first j) (capacity_at l.second j)
