-- What an evaluation bounds: distributions with no more room on the channels that it shows.
use Rattle.std.specs.Prelude.{ℕ, ◌≤◌, ◌<◌, Option, None, Some, List, length, slice_index}
use Rattle.storage.specs.Distributions.{capacity_at}

-- the first capacity is no more than the second; no bound is more than each
abbrev pub HasNoMore : Option ℕ → Option ℕ → Type 0
HasNoMore (Some k) (Some n) = k ≤ n
HasNoMore None (Some n) = ⊥
HasNoMore d None = Unit {0}

-- on each of the listed channels the second distribution has no more room than the first
abbrev pub CoversOn : List ℕ → List (Option ℕ) → List (Option ℕ) → Type 0
CoversOn shown ds es = (j : ℕ) → j < length shown → HasNoMore (capacity_at es (slice_index shown j)) (capacity_at ds (slice_index shown j))
