use Rattle.std.proofs.Common.{◌≡◌, ℕ, ◌%◌, ◌^◌, ◌≤◌, ◌∷◌, length, take}
use Rattle.std.specs.Prelude.{All, sum}
use Rattle.selftimed.specs.inside.Runs.{ends_of}
use Rattle.selftimed.proofs.running.ended_by.Given as goal

abbrev pub invariant-loop-k : goal.invariant-loop-k
invariant-loop-k l = record {
  past : All (λ (end : ℕ). end ≤ l.moment) (ends_of (l.fn.first ∷ take l.k l.later));
  firings : l.firings ≡ length (ends_of (l.fn.first ∷ take l.k l.later));
  total : l.total ≡ sum (ends_of (l.fn.first ∷ take l.k l.later)) % 2 ^ 64;
}
