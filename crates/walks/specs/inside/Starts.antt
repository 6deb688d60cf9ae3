-- Where walks begin.
use Rattle.std.specs.Prelude.{◌≡◌, ℕ, Contains, List, None, Option, Some, slice_get}
use Rattle.covers.specs.declared.lattice.Axis.{Axis}
use Rattle.covers.specs.Lattices.{corner_of}
use Rattle.walks.specs.declared.telling.Telling.{Telling}
use Rattle.walks.specs.Tellings.{IsUnder}

-- one of the tellings has no more than the capacities
abbrev pub HasUnder : List Telling → List ℕ → Type 0
HasUnder tellings ks = (t : Telling) × Contains tellings t × IsUnder t.capacities ks

-- the capacities are those of the telling at the place; the corner where none is named
abbrev pub IsStart : List Axis → List Telling → Option ℕ → List ℕ → Type 0
IsStart axes tellings None ks = ks ≡ corner_of axes
IsStart axes tellings (Some place) ks = (t : Telling) → slice_get tellings place ≡ Some t → ks ≡ t.capacities
