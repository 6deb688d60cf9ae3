-- The lattice of capacities: by bounded channel those that are looked at, and the storage that a vector of them needs.
use Rattle.std.specs.Prelude.{◌≡◌, ℕ, ◌+◌, ◌*◌, ◌≤◌, ◌<◌, List, [], ◌∷◌, length, map, slice_index, slice_index_or}
use Rattle.covers.specs.declared.lattice.Axis.{Axis}
use Rattle.covers.specs.declared.lattice.Lattice.{Lattice}

-- the capacity is that of the corner and whole steps
abbrev pub IsOnAxis : Axis → ℕ → Type 0
IsOnAxis a k = (n : ℕ) × (k ≡ a.corner + n * a.step)

-- each channel has a capacity, and it is on its axis
pub record IsOnLattice (axes : List Axis) (ks : List ℕ) : Type 0 where
  pub long : length ks ≡ length axes
  pub each : (c : ℕ) (a : Axis) → c < length axes → IsOnAxis (slice_index_or axes c a) (slice_index ks c)

-- by channel the least capacity
abbrev pub corner_of : List Axis → List ℕ
corner_of axes = map (λ (a : Axis). a.corner) axes

-- the storage that capacities take: each channel adds the sizes of as many tokens as its capacity says
abbrev pub storage_of : List Axis → List ℕ → ℕ
storage_of [] ks = 0
storage_of (a ∷ axes) [] = 0
storage_of (a ∷ axes) (k ∷ ks) = k * a.size + storage_of axes ks

-- a vector that the search is about
pub record IsAmong (lattice : Lattice) (ks : List ℕ) : Type 0 where
  pub on : IsOnLattice lattice.axes ks
  pub within : storage_of lattice.axes ks ≤ lattice.limit
