-- Steps of capacities, the grid of those that tell apart, the corner, and rounding.
use Rattle.std.specs.Prelude.{◌≡◌, ◌≢◌, ℕ, zero, suc, ◌+◌, ◌-◌, ◌*◌, ◌/◌, ◌%◌, ◌≤◌, true, false, Option, None, Some, List, [], ◌∷◌, ◌++◌, slice_index}
use Rattle.sd_base.specs.Net.{Channel}
use Rattle.sd_base.specs.Lawful.{is_token_role}

-- Euclid's algorithm, with more turns than it takes
unfoldable pub euclid : ℕ → ℕ → ℕ → ℕ
euclid zero a b = a
euclid (suc fuel) a zero = a
euclid (suc fuel) a (suc b) = euclid fuel (suc b) (a % suc b)

-- the greatest common divisor of a list
unfoldable pub divisor_of : List ℕ → ℕ
divisor_of [] = 0
divisor_of (x ∷ xs) = euclid (suc (divisor_of xs)) x (divisor_of xs)

-- the step of a channel: the greatest common divisor of all its rates
unfoldable pub step_of : Channel → ℕ
step_of c = divisor_of (c.made ++ c.taken)

-- the capacity is the tokens and whole steps
abbrev pub IsOnStep : Channel → ℕ → Type 0
IsOnStep c k = (n : ℕ) × (k ≡ c.tokens + n * step_of c)

-- so is each capacity
abbrev pub IsOnGrid : List Channel → List (Option ℕ) → Type 0
IsOnGrid [] [] = Unit {0}
IsOnGrid [] (d ∷ ds) = ⊥
IsOnGrid (c ∷ cs) [] = Unit {0}
IsOnGrid (c ∷ cs) (None ∷ ds) = IsOnGrid cs ds
IsOnGrid (c ∷ cs) (Some k ∷ ds) = IsOnStep c k × IsOnGrid cs ds

-- each single rate of the channel is at most k
pub record CoversRates (c : Channel) (k : ℕ) : Type 0 where
  pub made : (p : ℕ) → slice_index c.made p ≤ k
  pub taken : (p : ℕ) → slice_index c.taken p ≤ k

-- the least number of tokens and whole steps that is at least each single rate
pub record IsCornerAt (c : Channel) (k : ℕ) : Type 0 where
  pub step : IsOnStep c k
  pub covers : CoversRates c k
  pub least : (n : ℕ) → CoversRates c (c.tokens + n * step_of c) → k ≤ c.tokens + n * step_of c

-- the least distribution on the grid that any live one is above
abbrev pub IsCorner : List Channel → List (Option ℕ) → Type 0
IsCorner [] [] = Unit {0}
IsCorner [] (d ∷ ds) = ⊥
IsCorner (c ∷ cs) [] = (is_token_role c.role ≡ false) × IsCorner cs []
IsCorner (c ∷ cs) (None ∷ ds) = (is_token_role c.role ≡ true) × (c.source ≡ c.target) × IsCorner cs ds
IsCorner (c ∷ cs) (Some k ∷ ds) = (is_token_role c.role ≡ true) × (c.source ≢ c.target) × IsCornerAt c k × IsCorner cs ds

-- the greatest number of tokens and whole steps that is at most k
unfoldable pub rounded_at : Channel → ℕ → ℕ
rounded_at c k = c.tokens + (k - c.tokens) / step_of c * step_of c

-- each capacity rounded down to the grid
abbrev pub rounded : List Channel → List (Option ℕ) → List (Option ℕ)
rounded [] ds = []
rounded (c ∷ cs) [] = []
rounded (c ∷ cs) (None ∷ ds) = None ∷ rounded cs ds
rounded (c ∷ cs) (Some k ∷ ds) = Some (rounded_at c k) ∷ rounded cs ds
