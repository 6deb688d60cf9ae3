use Rattle.std.proofs.Common.{ℕ, ◌<◌}
use Rattle.std.specs.Prelude.{◌↔◌, slice_index}
use Rattle.std.specs.Int.{◌∣◌}
use Rattle.bounded_scenarios.proofs.merged.divisor_of.Given as goal

abbrev pub invariant-loop-rate : goal.invariant-loop-rate
invariant-loop-rate l = (d : ℕ) → d ∣ l.divisor ↔ ((p : ℕ) → p < l.rate-index → d ∣ slice_index l.rates p)
