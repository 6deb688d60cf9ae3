-- The greatest rates of points by their storage.
use Rattle.std.specs.Prelude.{◌≡◌, ◌↔◌, ℕ, ◌*◌, ◌≤◌, ◌<◌, List, length, slice_index_or}
use Rattle.std.specs.List.Sorted.{IsNonDecreasingBy}
use Rattle.cert_text.specs.declared.certificates.PointLine.{PointLine}
use Rattle.cert_checker.specs.declared.best_rates.Best.{Best}
use Rattle.cert_checker.specs.declared.best_rates.BestRates.{BestRates}
use Rattle.cert_checker.specs.inside.BelowPoints.{HasBelow}

-- what stands for one past the last
abbrev pub no_best : Best
no_best = record { storage = 0; rate = (0, 1) }

abbrev pub best_at : List Best → ℕ → Best
best_at list i = slice_index_or list i no_best

-- a rate is at most another one
abbrev pub IsAtMost : ℕ × ℕ → ℕ × ℕ → Type 0
IsAtMost first second = first.0 * second.1 ≤ second.0 * first.1

-- none has time 0
abbrev pub ArePositive : List Best → Type 0
ArePositive list = (k : ℕ) → k < length list → 1 ≤ (best_at list k).rate.1

-- one of them has no more than a storage, and no less than a rate
abbrev pub HasUpTo : List Best → ℕ → ℕ × ℕ → Type 0
HasUpTo list storage rate = (k : ℕ) × (k < length list) × ((best_at list k).storage ≤ storage) × IsAtMost rate (best_at list k).rate

-- b has the storage of number k, and the greatest rate up to there
pub record IsBestAt (list : List Best) (k : ℕ) (b : Best) : Type 0 where
  pub storage : b.storage ≡ (best_at list k).storage
  pub positive : 1 ≤ b.rate.1
  pub place : ℕ
  pub within : place ≤ k
  pub is : (best_at list place).rate ≡ b.rate
  pub greatest : (j : ℕ) → j ≤ k → IsAtMost (best_at list j).rate b.rate

-- so it is for each of them
pub record AreBest (list steps : List Best) : Type 0 where
  pub size : length steps ≡ length list
  pub each : (k : ℕ) → k < length steps → IsBestAt list k (best_at steps k)

-- the first ones need no more than a storage, those from another number on more
pub record IsSplit (steps : List Best) (storage few enough : ℕ) : Type 0 where
  pub below : (k : ℕ) → k < few → (best_at steps k).storage ≤ storage
  pub above : (k : ℕ) → enough ≤ k → k < length steps → storage < (best_at steps k).storage

-- the rates of points in the order of their storage, and with each the greatest up to there
pub record AreBestRates (points : List PointLine) (best : BestRates) : Type 0 where
  pub list : List Best
  pub order : IsNonDecreasingBy (λ (b : Best). b.storage) list
  pub positive : ArePositive list
  pub same : (storage : ℕ) (rate : ℕ × ℕ) → HasUpTo list storage rate ↔ HasBelow points storage rate
  pub are : AreBest list best.steps.items
