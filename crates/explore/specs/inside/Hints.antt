-- What led to the distributions that wait.
use Rattle.std.specs.Prelude.{◌≡◌, ℕ, Option, None, Some, List, slice_get}
use Rattle.sd_base.specs.Net.{Net}
use Rattle.storage.specs.Distributions.{AtMost}
use Rattle.guide.specs.Evaluations.{IsEvaluable}
use Rattle.levels.specs.declared.found.Found.{Found}
use Rattle.explore.specs.declared.exploration.Member.{Member}
use Rattle.explore.specs.Explorations.{IsMember}

-- the hint is the place of a member with no more room
pub record IsHintAt (net : Net) (states : ℕ) (ms : List Member) (place : ℕ) (ds : List (Option ℕ)) : Type 0 where
  pub member : Member
  pub at : slice_get ms place ≡ Some member
  pub evaluated : IsMember net states member
  pub most : AtMost member.capacities.capacities ds

-- a hint of a distribution: none, or such a place
abbrev pub IsHinted : Net → ℕ → List Member → Option ℕ → List (Option ℕ) → Type 0
IsHinted net states ms None ds = Unit {0}
IsHinted net states ms (Some place) ds = IsHintAt net states ms place ds

-- one that was found can be evaluated, and its hint is of it
pub record IsEvaluableFrom (net : Net) (states : ℕ) (ms : List Member) (f : Found (Option ℕ)) : Type 0 where
  pub fits : IsEvaluable net f.capacities.capacities
  pub hinted : IsHinted net states ms f.hint f.capacities.capacities
