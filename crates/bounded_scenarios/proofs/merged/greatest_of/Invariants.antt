use Rattle.std.proofs.Common.{ℕ, ◌<◌, ◌≤◌}
use Rattle.std.specs.Prelude.{slice_index}
use Rattle.bounded_scenarios.proofs.merged.greatest_of.Given as goal

abbrev pub invariant-loop-rate : goal.invariant-loop-rate
invariant-loop-rate l = record {
  covers : (p : ℕ) → p < l.rate-index → slice_index l.rates p ≤ l.greatest;
  least : (k : ℕ) → ((p : ℕ) → slice_index l.rates p ≤ k) → l.greatest ≤ k;
}
