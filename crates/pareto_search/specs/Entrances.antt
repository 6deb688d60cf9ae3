-- What a search evaluates, and with which numbers the gate is entered.
use Rattle.std.specs.Prelude.{◌≡◌, ◌≢◌, ℕ, ◌+◌, ◌≤◌, ◌⊎◌, All, Contains, Option, List, [], ◌∷◌, ◌++◌, length}
use Rattle.sd_base.specs.declared.limits.Limits.{Limits}
use Rattle.sd_base.specs.Net.{Net}
use Rattle.sd_base.specs.Untimed.{IsLive}
use Rattle.storage.specs.BoundedNets.{bound}
use Rattle.storage.specs.Distributions.{storage_of}
use Rattle.storage.specs.StorageOrder.{AreInOrder}
use Rattle.levels.specs.Entrances.{EnterByLevels}
use Rattle.explore.specs.Reachable.{IsReachable}

-- distributions of one storage in lexicographic order, each entered with that storage for the level and its place among them
pub record EntersLevel (net : Net) (entered : ℕ → ℕ → Type 0) (dss : List (List (Option ℕ))) : Type 0 where
  pub storage : ℕ
  pub needed : All (λ (ds : List (Option ℕ)). storage_of net.channels ds ≡ storage) dss
  pub order : AreInOrder net.channels dss
  pub each : EnterByLevels net.channels entered dss

-- such levels one after another
pub data EnterLevels (net : Net) (entered : ℕ → ℕ → Type 0) : List (List (Option ℕ)) → Type 0 where
  none : EnterLevels net entered []
  more : (before level : List (List (Option ℕ))) → EnterLevels net entered before → EntersLevel net entered level → EnterLevels net entered (before ++ level)

-- none stands there twice
abbrev pub AreApart : List (List (Option ℕ)) → Type 0
AreApart [] = Unit {0}
AreApart (ds ∷ rest) = ((es : List (Option ℕ)) → Contains rest es → ds ≢ es) × AreApart rest

-- so many of the distributions have live bounded nets
abbrev pub HaveLive : Net → List (List (Option ℕ)) → ℕ → Type 0
HaveLive net [] n = n ≡ 0
HaveLive net (ds ∷ dss) n = (m : ℕ) × HaveLive net dss m × ((IsLive (bound net ds) × (n ≡ m + 1)) ⊎ ((IsLive (bound net ds) → ⊥) × (n ≡ m)))

-- what was evaluated, in the order of the turns: distributions that differ, are reachable within the limit and are no more than
-- allowed; they entered level by level, and so many of them have live bounded nets
pub record IsEvaluating (net : Net) (limits : Limits) (entered : ℕ → ℕ → Type 0) (n : ℕ) : Type 0 where
  pub all : List (List (Option ℕ))
  pub apart : AreApart all
  pub reachable : (ds : List (Option ℕ)) → Contains all ds → IsReachable net limits.total ds
  pub few : length all ≤ limits.distributions
  pub levels : EnterLevels net entered all
  pub live : HaveLive net all n
