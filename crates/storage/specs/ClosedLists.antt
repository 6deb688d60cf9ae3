-- Lists of distributions that are closed under enlarging the channels that each shows: what an exploration and a certificate
-- come to.
use Rattle.std.specs.Prelude.{◌≡◌, ℕ, ◌*◌, ◌≤◌, ◌<◌, Option, List, [], length, slice_index, slice_index_or}
use Rattle.sd_base.specs.Net.{Channel, Net, nowhere}
use Rattle.sd_base.specs.Rates.{Rate}
use Rattle.storage.specs.Distributions.{capacity_at, IsDistribution, AtMost, storage_of, enlarged}
use Rattle.storage.specs.BoundedNets.{bound}
use Rattle.storage.specs.Steps.{step_of, IsOnGrid, IsCorner, rounded}
use Rattle.storage.specs.ParetoPoints.{Pair, Rating, IsReachedBy, no_pair, rating_of}

-- a distribution, the channels that it shows, and a bound num/den of its rate
pub record Entry : Type 0 where
  pub capacities : List (Option ℕ)
  pub shown : List ℕ
  pub num : ℕ
  pub den : ℕ

-- what stands for an entry past the last one
abbrev pub no_entry : Entry
no_entry = record { capacities = []; shown = []; num = 0; den = 0 }

abbrev pub entry_at : List Entry → ℕ → Entry
entry_at es i = slice_index_or es i no_entry

-- some entry has these capacities
abbrev pub HasEntry : List Entry → List (Option ℕ) → Type 0
HasEntry es ds = (i : ℕ) × (i < length es) × ((entry_at es i).capacities ≡ ds)

-- both have the same capacities at the listed channels
abbrev pub AgreesOn : List ℕ → List (Option ℕ) → List (Option ℕ) → Type 0
AgreesOn shown ds es = (j : ℕ) → j < length shown → capacity_at ds (slice_index shown j) ≡ capacity_at es (slice_index shown j)

-- the corner is among them if it is within the limit; each is on the grid and within the limit; so is, with each, the one
-- enlarged on a channel that it shows, if that is within the limit. What runs within the limit is, rounded down, at least the corner; and what,
-- rounded down, agrees with one on what it shows and is no less elsewhere has no rate above the bound of that one
pub record IsClosedBy (cs : List Channel) (rating : Rating) (limit : ℕ) (es : List Entry) : Type 0 where
  pub corner : List (Option ℕ)
  pub is_corner : IsCorner cs corner
  pub start : storage_of cs corner ≤ limit → HasEntry es corner
  pub distributions : (i : ℕ) → i < length es → IsDistribution cs (entry_at es i).capacities
  pub grid : (i : ℕ) → i < length es → IsOnGrid cs (entry_at es i).capacities
  pub within : (i : ℕ) → i < length es → storage_of cs (entry_at es i).capacities ≤ limit
  pub next : (i j : ℕ) → i < length es → j < length (entry_at es i).shown →
      storage_of cs (enlarged (entry_at es i).capacities (slice_index (entry_at es i).shown j) (step_of (slice_index_or cs (slice_index (entry_at es i).shown j) nowhere))) ≤ limit →
      HasEntry es (enlarged (entry_at es i).capacities (slice_index (entry_at es i).shown j) (step_of (slice_index_or cs (slice_index (entry_at es i).shown j) nowhere)))
  pub positive : (i : ℕ) → i < length es → 1 ≤ (entry_at es i).den
  pub above : (ds : List (Option ℕ)) (p q : ℕ) → IsDistribution cs ds → storage_of cs ds ≤ limit → rating ds p q → 1 ≤ p → AtMost corner (rounded cs ds)
  pub bounds : (i : ℕ) → i < length es → (ds : List (Option ℕ)) → IsDistribution cs ds → storage_of cs ds ≤ limit → AtMost (entry_at es i).capacities (rounded cs ds) →
      AgreesOn (entry_at es i).shown (entry_at es i).capacities (rounded cs ds) → (p q : ℕ) → rating ds p q → 1 ≤ p → p * (entry_at es i).den ≤ (entry_at es i).num * q

-- some member is at most the distribution, with no lesser bound than the rate
pub record IsCovered (es : List Entry) (ds : List (Option ℕ)) (p q : ℕ) : Type 0 where
  pub place : ℕ
  pub below : place < length es
  pub most : AtMost (entry_at es place).capacities ds
  pub bounds : p * (entry_at es place).den ≤ (entry_at es place).num * q

-- the pairs rise in storage and in rate, each is reached, and each member with a bound above 0 has a pair of no more storage
-- and no less rate
pub record IsFrontOverBy (cs : List Channel) (rating : Rating) (limit : ℕ) (es : List Entry) (pairs : List Pair) : Type 0 where
  pub storage : (i j : ℕ) → i < j → j < length pairs → (slice_index_or pairs i no_pair).storage < (slice_index_or pairs j no_pair).storage
  pub rate : (i j : ℕ) → i < j → j < length pairs → (slice_index_or pairs i no_pair).num * (slice_index_or pairs j no_pair).den < (slice_index_or pairs j no_pair).num * (slice_index_or pairs i no_pair).den
  pub reached : (i : ℕ) → i < length pairs → IsReachedBy cs rating limit (slice_index_or pairs i no_pair)
  pub covers : (i : ℕ) → i < length es → 1 ≤ (entry_at es i).num → (k : ℕ) × (k < length pairs) × ((slice_index_or pairs k no_pair).storage ≤ storage_of cs (entry_at es i).capacities)
      × ((entry_at es i).num * (slice_index_or pairs k no_pair).den ≤ (slice_index_or pairs k no_pair).num * (entry_at es i).den)

-- a closed list by the rates of the net
abbrev pub IsClosed : Net → ℕ → List Entry → Type 0
IsClosed net limit es = IsClosedBy net.channels (rating_of net) limit es

-- the same, but that rates are bounded of what agrees with a member as it stands, and nothing is said of the corner: of nets
-- this is enough
pub record IsClosedUnrounded (net : Net) (limit : ℕ) (es : List Entry) : Type 0 where
  pub corner : List (Option ℕ)
  pub is_corner : IsCorner net.channels corner
  pub start : storage_of net.channels corner ≤ limit → HasEntry es corner
  pub distributions : (i : ℕ) → i < length es → IsDistribution net.channels (entry_at es i).capacities
  pub grid : (i : ℕ) → i < length es → IsOnGrid net.channels (entry_at es i).capacities
  pub within : (i : ℕ) → i < length es → storage_of net.channels (entry_at es i).capacities ≤ limit
  pub next : (i j : ℕ) → i < length es → j < length (entry_at es i).shown →
      storage_of net.channels (enlarged (entry_at es i).capacities (slice_index (entry_at es i).shown j) (step_of (slice_index_or net.channels (slice_index (entry_at es i).shown j) nowhere))) ≤ limit →
      HasEntry es (enlarged (entry_at es i).capacities (slice_index (entry_at es i).shown j) (step_of (slice_index_or net.channels (slice_index (entry_at es i).shown j) nowhere)))
  pub positive : (i : ℕ) → i < length es → 1 ≤ (entry_at es i).den
  pub bounds : (i : ℕ) → i < length es → (ds : List (Option ℕ)) → IsDistribution net.channels ds → storage_of net.channels ds ≤ limit → AtMost (entry_at es i).capacities ds →
      AgreesOn (entry_at es i).shown (entry_at es i).capacities ds → (p q : ℕ) → Rate (bound net ds) p q → p * (entry_at es i).den ≤ (entry_at es i).num * q

-- pairs that cover the members of a closed list
abbrev pub IsFrontOver : Net → ℕ → List Entry → List Pair → Type 0
IsFrontOver net limit es pairs = IsFrontOverBy net.channels (rating_of net) limit es pairs
