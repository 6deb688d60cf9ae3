-- What a blocked distribution holds back.
use Rattle.std.specs.Prelude.{◌≡◌, ℕ, ◌≤◌, ◌⊎◌, Option, None, Some, List, [], ◌∷◌, ◌++◌, drop}
use Rattle.storage.specs.ClosedLists.{AgreesOn}
use Rattle.storage.specs.Distributions.{AtMost}
use Rattle.scenario_storage.specs.declared.blocked.Blocked.{Blocked}

-- both are capacities, the first at most the second, or neither is
abbrev pub FitsIn : Option ℕ → Option ℕ → Type 0
FitsIn None None = Unit {0}
FitsIn (Some a) (Some b) = a ≤ b
FitsIn a b = ⊥

-- the second distribution has as much room on the channels that are shown, and no less on the others
pub record HoldsBack (ds : List (Option ℕ)) (shown : List ℕ) (es : List (Option ℕ)) : Type 0 where
  pub most : AtMost ds es
  pub agrees : AgreesOn shown ds es

-- one more is kept, beside all others or in place of the first
abbrev pub IsKept : Blocked → List Blocked → List Blocked → Type 0
IsKept one old new = (new ≡ old ++ one ∷ []) ⊎ (new ≡ drop 1 old ++ one ∷ [])
