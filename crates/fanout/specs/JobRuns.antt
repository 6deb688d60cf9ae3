-- When a list of jobs may be run, and what running it makes of it.
use Rattle.std.specs.Prelude.{◌≡◌, ℕ, ◌<◌, List, length, slice_index_or}

-- each job may run, once its number in the list is one of those that entered
abbrev pub AreReadyOnceEntered : {A : Type 0} → (A → Type 0) → (ℕ → Type 0) → List A → Type 0
AreReadyOnceEntered {A} ready entered jobs = (k : ℕ) (d : A) → k < length jobs → entered k → ready (slice_index_or jobs k d)

-- the number in the list of each job is one of those that entered
abbrev pub EachEntered : {A : Type 0} → (ℕ → Type 0) → List A → Type 0
EachEntered {A} entered jobs = (k : ℕ) → k < length jobs → entered k

-- there are as many jobs as before, and each in its own place stands to what it was as R says
pub record EachRan {A : Type 0} (R : A → A → Type 0) (before after : List A) : Type 0 where
  pub many : length after ≡ length before
  pub each : (k : ℕ) (d : A) → k < length before → R (slice_index_or before k d) (slice_index_or after k d)
