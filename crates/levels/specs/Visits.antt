-- What a search by levels visits, over channels, from a start and within a limit of storage.
use Rattle.std.specs.Prelude.{◌≡◌, ℕ, ◌≤◌, ◌<◌, ◌⊎◌, All, Contains, Option, List, map}
use Rattle.sd_base.specs.Net.{Channel}
use Rattle.storage.specs.Distributions.{storage_of}
use Rattle.storage.specs.StorageOrder.{AreInOrder, stepped}
use Rattle.storage.specs.ClosedLists.{Entry}

-- a distribution that is visited, and the channels on which it leads on to more room
pub record Visit : Type 0 where
  pub capacities : List (Option ℕ)
  pub channels : List ℕ

-- the visit of a distribution that leads on by some channels
abbrev pub led_by : List (Option ℕ) → List ℕ → Visit
led_by ds channels = record { capacities = ds; channels = channels }

-- the visits that entries are
abbrev pub visits_of : List Entry → List Visit
visits_of es = map (λ (e : Entry). led_by e.capacities e.shown) es

-- the distributions of visits
abbrev pub visited : List Visit → List (List (Option ℕ))
visited visits = map (λ (v : Visit). v.capacities) visits

-- the distribution has a step more room than a visit on one of the channels by which it leads on
abbrev pub LeadsTo : List Channel → Visit → List (Option ℕ) → Type 0
LeadsTo cs v ds = (c : ℕ) × Contains v.channels c × (ds ≡ stepped cs v.capacities c)

-- the distribution is the start, or one of the visits leads to it
abbrev pub IsLedTo : List Channel → List (Option ℕ) → List Visit → List (Option ℕ) → Type 0
IsLedTo cs start visits ds = (ds ≡ start) ⊎ ((v : Visit) × Contains visits v × LeadsTo cs v ds)

-- the visits are in order and within the limit; the start is one of them, and each distribution to which one leads, if they
-- are within the limit; each leads on to more storage; and each is the start, or one leads to it
pub record AreVisits (cs : List Channel) (start : List (Option ℕ)) (limit : ℕ) (visits : List Visit) : Type 0 where
  pub order : AreInOrder cs (visited visits)
  pub within : All (λ (ds : List (Option ℕ)). storage_of cs ds ≤ limit) (visited visits)
  pub begins : storage_of cs start ≤ limit → Contains (visited visits) start
  pub next : (v : Visit) (ds : List (Option ℕ)) → Contains visits v → LeadsTo cs v ds → storage_of cs ds ≤ limit → Contains (visited visits) ds
  pub rises : (v : Visit) (ds : List (Option ℕ)) → Contains visits v → LeadsTo cs v ds → storage_of cs v.capacities < storage_of cs ds
  pub led : (ds : List (Option ℕ)) → Contains (visited visits) ds → IsLedTo cs start visits ds

-- what is come to: the start, and with each distribution those to which its visit leads, if they are within the limit
pub data IsComeTo (cs : List Channel) (start : List (Option ℕ)) (limit : ℕ) (visits : List Visit) : List (Option ℕ) → Type 0 where
  first : (ds : List (Option ℕ)) → ds ≡ start → storage_of cs ds ≤ limit → IsComeTo cs start limit visits ds
  next : (v : Visit) (ds : List (Option ℕ)) → IsComeTo cs start limit visits v.capacities → Contains visits v → LeadsTo cs v ds → storage_of cs ds ≤ limit → IsComeTo cs start limit visits ds
