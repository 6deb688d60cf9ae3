-- Those that wait, before and after one step.
use Rattle.std.specs.Prelude.{◌≡◌, ℕ, ◌+◌, ◌⊎◌, Contains, List, length}
use Rattle.std.specs.List.Sorted.{IsStrictlySortedBy}
use Rattle.sd_base.specs.Net.{Channel}
use Rattle.storage.specs.Distributions.{storage_of}
use Rattle.levels.specs.declared.channel.ChannelStep.{ChannelStep}
use Rattle.levels.specs.declared.error.LevelsError.{LevelsError}
use Rattle.levels.specs.declared.error.LevelsError.TheVariants.{Spent, NoMemory}
use Rattle.levels.specs.declared.found.Found.{Found}
use Rattle.levels.specs.declared.levels.Bounds.{Bounds}
use Rattle.levels.specs.Visits.{Visit}
use Rattle.levels.specs.Frontiers.{IsFoundBy, IsOver, Rises, StandsIn, found_order}

module _ {H : Type 0} where
  -- the second is a copy of the first
  pub record IsCopy (child f : Found H) : Type 0 where
    pub capacities : f.capacities.capacities ≡ child.capacities.capacities
    pub total : f.total ≡ child.total
    pub hint : f.hint ≡ child.hint

  -- what waits afterwards is what waited before, and the distribution of the child
  pub record IsAdded (child : Found H) (old new : List (Found H)) : Type 0 where
    pub kept : (f : Found H) → Contains old f → Contains new f
    pub only : (f : Found H) → Contains new f → Contains old f ⊎ IsCopy child f
    pub there : StandsIn new child.capacities.capacities

  -- with the child one more was found than allowed: all of them, in order
  pub record IsOneTooMany (child : Found H) (bounds : Bounds) (found : ℕ) (old : List (Found H)) : Type 0 where
    pub all : List (Found H)
    pub only : (f : Found H) → Contains all f → Contains old f ⊎ IsCopy child f
    pub sorted : IsStrictlySortedBy found_order all
    pub count : bounds.distributions + length old + 1 ≡ found + length all

  abbrev pub EndsAdding : Found H → Bounds → ℕ → List (Found H) → LevelsError → Type 0
  EndsAdding child bounds found old Spent = IsOneTooMany child bounds found old
  EndsAdding child bounds found old NoMemory = Unit {0}

  -- the same of those to which a visit leads
  pub record AreTooManyLed (cs : List Channel) (bounds : Bounds) (v : Visit) (hint : H) (found : ℕ) (old : List (Found H)) : Type 0 where
    pub all : List (Found H)
    pub only : (f : Found H) → Contains all f → Contains old f ⊎ IsFoundBy cs bounds.total v hint f
    pub sorted : IsStrictlySortedBy found_order all
    pub count : bounds.distributions + length old + 1 ≡ found + length all

  abbrev pub EndsWaiting : List ChannelStep → Bounds → ℕ → Visit → H → ℕ → List (Found H) → LevelsError → Type 0
  EndsWaiting channels bounds total v hint found old Spent = (cs : List Channel) → IsOver cs channels → total ≡ storage_of cs v.capacities → Rises cs v → AreTooManyLed cs bounds v hint found old
  EndsWaiting channels bounds total v hint found old NoMemory = Unit {0}
