use Rattle.std.proofs.Common.{◌≤◌, ◌-◌, length}
use Rattle.std.specs.List.Sorted.{IsNonDecreasingBy}
use Rattle.cert_checker.specs.declared.best_rates.Best.{Best}
use Rattle.cert_checker.specs.inside.Bests.{IsSplit}
use Rattle.cert_checker.proofs.best_rates.count_within.Given as goal

abbrev pub invariant-loop-few : goal.invariant-loop-few
invariant-loop-few l = record {
  apart : l.few ≤ l.enough;
  within : l.enough ≤ length l.steps;
  split : IsNonDecreasingBy (λ (b : Best). b.storage) l.steps → IsSplit l.steps l.storage l.few l.enough;
}

abbrev pub decreases-loop-few : goal.decreases-loop-few
decreases-loop-few l = l.enough - l.few
