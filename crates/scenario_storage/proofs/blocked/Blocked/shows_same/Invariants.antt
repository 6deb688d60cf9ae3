use Rattle.std.proofs.Common.{◌≡◌, ℕ, ◌<◌}
use Rattle.std.specs.Prelude.{slice_index}
use Rattle.storage.specs.Distributions.{capacity_at}
use Rattle.scenario_storage.proofs.blocked.Blocked.shows_same.Given as goal

abbrev pub invariant-loop-channel : goal.invariant-loop-channel
invariant-loop-channel l =
    (j : ℕ) → j < l.channel-index → capacity_at l.self.capacities.capacities (slice_index l.channel-items j) ≡ capacity_at l.other.capacities (slice_index l.channel-items j)
