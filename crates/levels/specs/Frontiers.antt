-- Where a search by levels stands between two calls.
use Rattle.std.specs.Prelude.{◌≡◌, ℕ, ◌+◌, ◌≤◌, ◌<◌, ◌⊎◌, All, Contains, Option, List, ◌++◌, length, map, slice_index_or}
use Rattle.std.specs.declared.cmp.Ordering.{Ordering}
use Rattle.std.specs.List.Sorted.{IsPermutation, IsStrictlySortedBy}
use Rattle.sd_base.specs.Net.{Channel, nowhere}
use Rattle.storage.specs.Distributions.{storage_of}
use Rattle.storage.specs.StorageOrder.{AreInOrder}
use Rattle.storage.specs.Steps.{step_of}
use Rattle.levels.specs.declared.channel.ChannelStep.{ChannelStep}
use Rattle.levels.specs.declared.error.LevelsError.{LevelsError}
use Rattle.levels.specs.declared.error.LevelsError.TheVariants.{Spent, NoMemory}
use Rattle.levels.specs.declared.found.Found.{Found}
use Rattle.levels.specs.declared.levels.Bounds.{Bounds}
use Rattle.levels.specs.declared.levels.Levels.{Levels}
use Rattle.levels.specs.WaitingOrder.{waiting_cmp}
use Rattle.levels.specs.Visits.{IsLedTo, LeadsTo, Visit, visited}

-- what a search knows of a channel
abbrev pub channel_step : Channel → ChannelStep
channel_step c = record { size = c.size; step = step_of c }

-- that of each channel is known, and each has tokens of some size
pub record IsOver (cs : List Channel) (channels : List ChannelStep) : Type 0 where
  pub known : channels ≡ map channel_step cs
  pub some_size : (i : ℕ) → i < length cs → 1 ≤ (slice_index_or cs i nowhere).size

-- each distribution to which a visit leads needs more storage
abbrev pub Rises : List Channel → Visit → Type 0
Rises cs v = (ds : List (Option ℕ)) → LeadsTo cs v ds → storage_of cs v.capacities < storage_of cs ds

module _ {H : Type 0} where
  -- the order in which those that wait are visited
  abbrev pub found_order : Found H → Found H → Ordering
  found_order = waiting_cmp (λ (f : Found H). f.total) (λ (f : Found H). f.capacities.capacities)

  -- the distributions of those that were found
  abbrev pub distributions_of : List (Found H) → List (List (Option ℕ))
  distributions_of fs = map (λ (f : Found H). f.capacities.capacities) fs

  -- the distribution is that of one of the list
  abbrev pub StandsIn : List (Found H) → List (Option ℕ) → Type 0
  StandsIn fs ds = (f : Found H) × Contains fs f × (f.capacities.capacities ≡ ds)

  -- the distribution was found: it is taken off, or waits
  abbrev pub WasFound : List (List (Option ℕ)) → List (Found H) → List (Option ℕ) → Type 0
  WasFound done pending ds = Contains done ds ⊎ StandsIn pending ds

  -- one that waits, with its storage, which is at least the floor and within the limit
  pub record Waits (cs : List Channel) (limit floor : ℕ) (f : Found H) : Type 0 where
    pub total : f.total ≡ storage_of cs f.capacities.capacities
    pub above : floor ≤ f.total
    pub within : f.total ≤ limit

  -- after some visits, and with distributions that are taken off and don't lead on yet, all of less storage than the floor:
  -- they are in order and within the limit, and those that wait need more; the start was found, and each distribution to which
  -- a visit leads, if they are within the limit; each leads on to more storage; and each that was found is the start, or a
  -- visit leads to it
  pub record IsSpread (cs : List Channel) (start : List (Option ℕ)) (limit floor : ℕ) (visits : List Visit) (taken : List (List (Option ℕ))) (pending : List (Found H)) : Type 0 where
    pub order : AreInOrder cs (visited visits ++ taken)
    pub within : All (λ (ds : List (Option ℕ)). storage_of cs ds ≤ limit) (visited visits ++ taken)
    pub low : All (λ (ds : List (Option ℕ)). storage_of cs ds < floor) (visited visits ++ taken)
    pub waits : All (Waits cs limit floor) pending
    pub begins : storage_of cs start ≤ limit → WasFound (visited visits ++ taken) pending start
    pub next : (v : Visit) (ds : List (Option ℕ)) → Contains visits v → LeadsTo cs v ds → storage_of cs ds ≤ limit → WasFound (visited visits ++ taken) pending ds
    pub rises : (v : Visit) → Contains visits v → Rises cs v
    pub led : (ds : List (Option ℕ)) → WasFound (visited visits ++ taken) pending ds → IsLedTo cs start visits ds

  -- where a search stands that has made these visits and has these distributions taken off; it counts what was found, which is
  -- no more than is allowed
  pub record IsFrontier (cs : List Channel) (start : List (Option ℕ)) (floor : ℕ) (visits : List Visit) (taken : List (List (Option ℕ))) (levels : Levels H) : Type 0 where
    pub over : IsOver cs levels.channels
    pub spread : IsSpread cs start levels.bounds.total floor visits taken levels.waiting
    pub found : levels.found ≡ length visits + length taken + length levels.waiting
    pub few : levels.found ≤ levels.bounds.distributions

  -- a level was taken off those that waited: all with the least storage, in lexicographic order
  pub record IsLevelTaken (total : ℕ) (level old new : List (Found H)) : Type 0 where
    pub parts : IsPermutation old (level ++ new)
    pub totals : All (λ (f : Found H). f.total ≡ total) level
    pub some : 1 ≤ length level
    pub later : All (λ (f : Found H). total < f.total) new
    pub order : IsStrictlySortedBy found_order level

  -- one to which a visit leads within the limit, with its storage and the hint
  pub record IsFoundBy (cs : List Channel) (limit : ℕ) (v : Visit) (hint : H) (f : Found H) : Type 0 where
    pub leads : LeadsTo cs v f.capacities.capacities
    pub total : f.total ≡ storage_of cs f.capacities.capacities
    pub within : f.total ≤ limit
    pub hinted : f.hint ≡ hint

  -- what waits afterwards is what waited before, and those to which a visit leads within the limit
  pub record AreLedOn (cs : List Channel) (limit : ℕ) (v : Visit) (hint : H) (old new : List (Found H)) : Type 0 where
    pub kept : (f : Found H) → Contains old f → Contains new f
    pub only : (f : Found H) → Contains new f → Contains old f ⊎ IsFoundBy cs limit v hint f
    pub there : (ds : List (Option ℕ)) → LeadsTo cs v ds → storage_of cs ds ≤ limit → StandsIn new ds

  -- the channels and the bounds stay
  pub record IsSame (old new : Levels H) : Type 0 where
    pub channels : new.channels ≡ old.channels
    pub bounds : new.bounds ≡ old.bounds

-- why a search isn't gone on with: more differing distributions were found within the limit than are allowed, each of them the
-- start or led to by a visit; or want of memory
pub record AreTooMany (cs : List Channel) (start : List (Option ℕ)) (bounds : Bounds) (visits : List Visit) : Type 0 where
  pub found : List (List (Option ℕ))
  pub order : AreInOrder cs found
  pub within : All (λ (ds : List (Option ℕ)). storage_of cs ds ≤ bounds.total) found
  pub led : (ds : List (Option ℕ)) → Contains found ds → IsLedTo cs start visits ds
  pub many : bounds.distributions < length found

abbrev pub IsSpent : List Channel → List (Option ℕ) → Bounds → List Visit → LevelsError → Type 0
IsSpent cs start bounds visits Spent = AreTooMany cs start bounds visits
IsSpent cs start bounds visits NoMemory = Unit {0}
