-- The pairs of storage and rate that distributions reach, and the Pareto points among them: by any rating of the distributions
-- of some channels, and by the rates of the nets that they bound.
use Rattle.std.specs.Prelude.{◌≡◌, ℕ, ◌*◌, ◌≤◌, ◌<◌, ◌⊎◌, Option, List, length, slice_index_or}
use Rattle.sd_base.specs.Net.{Channel, Net}
use Rattle.sd_base.specs.Rates.{Rate}
use Rattle.storage.specs.Distributions.{IsDistribution, storage_of}
use Rattle.storage.specs.BoundedNets.{bound}

-- which distributions have which rate, a numerator over a denominator
abbrev pub Rating : Type 1
Rating = List (Option ℕ) → ℕ → ℕ → Type 0

-- the distribution needs so much storage, at most the limit, and has this rate, above 0
pub record ReachesBy (cs : List Channel) (rating : Rating) (limit storage num den : ℕ) (ds : List (Option ℕ)) : Type 0 where
  pub distribution : IsDistribution cs ds
  pub total : storage_of cs ds ≡ storage
  pub within : storage ≤ limit
  pub rate : rating ds num den
  pub runs : 1 ≤ num

-- so much storage and a rate
pub record Pair : Type 0 where
  pub storage : ℕ
  pub num : ℕ
  pub den : ℕ

-- some distribution reaches the pair
abbrev pub IsReachedBy : List Channel → Rating → ℕ → Pair → Type 0
IsReachedBy cs rating limit p = (ds : List (Option ℕ)) × ReachesBy cs rating limit p.storage p.num p.den ds

-- no more storage and no less rate, and one of both really
abbrev pub Beats : Pair → Pair → Type 0
Beats a b = ((a.storage < b.storage) × (b.num * a.den ≤ a.num * b.den)) ⊎ ((a.storage ≡ b.storage) × (b.num * a.den < a.num * b.den))

-- a pair that is reached and that no reached pair beats
pub record IsParetoBy (cs : List Channel) (rating : Rating) (limit : ℕ) (p : Pair) : Type 0 where
  pub reached : IsReachedBy cs rating limit p
  pub best : (other : Pair) → IsReachedBy cs rating limit other → ¬ Beats other p

-- what stands for a pair past the last one
abbrev pub no_pair : Pair
no_pair = record { storage = 0; num = 0; den = 1 }

-- the pairs are all Pareto points and no others, by rising storage
pub record IsFrontBy (cs : List Channel) (rating : Rating) (limit : ℕ) (pairs : List Pair) : Type 0 where
  pub rising : (i j : ℕ) → i < j → j < length pairs → (slice_index_or pairs i no_pair).storage < (slice_index_or pairs j no_pair).storage
  pub points : (i : ℕ) → i < length pairs → IsParetoBy cs rating limit (slice_index_or pairs i no_pair)
  pub all : (p : Pair) → IsParetoBy cs rating limit p → (i : ℕ) × (i < length pairs) × (slice_index_or pairs i no_pair ≡ p)

-- a distribution has the rate of the net that it bounds
abbrev pub rating_of : Net → Rating
rating_of net = λ ds num den. Rate (bound net ds) num den

-- a distribution reaches so much storage and a rate of the net
abbrev pub Reaches : Net → ℕ → ℕ → ℕ → ℕ → List (Option ℕ) → Type 0
Reaches net limit storage num den ds = ReachesBy net.channels (rating_of net) limit storage num den ds

-- some distribution reaches the pair
abbrev pub IsReachedPair : Net → ℕ → Pair → Type 0
IsReachedPair net limit p = IsReachedBy net.channels (rating_of net) limit p

-- a Pareto point of the net
abbrev pub IsPareto : Net → ℕ → Pair → Type 0
IsPareto net limit p = IsParetoBy net.channels (rating_of net) limit p

-- all Pareto points of the net and no others, by rising storage
abbrev pub IsFront : Net → ℕ → List Pair → Type 0
IsFront net limit pairs = IsFrontBy net.channels (rating_of net) limit pairs
