-- Storage distributions as vectors: by channel of the file its capacity, and 0 for a self-loop, which has none.
use Rattle.std.specs.Prelude.{◌≡◌, ℕ, Option, None, Some, List, [], ◌∷◌, map, unwrap_or}
use Rattle.sd_base.specs.Net.{Channel}
use Rattle.storage.specs.Steps.{step_of}
use Rattle.covers.specs.declared.lattice.Axis.{Axis}

-- the capacity, or 0 where there is none
abbrev pub room_in : Option ℕ → ℕ
room_in d = unwrap_or d 0

-- the distribution as a vector
abbrev pub vector_of : List (Option ℕ) → List ℕ
vector_of ds = map room_in ds

-- the vector's capacity, where there is one
abbrev pub with_room : Option ℕ → ℕ → Option ℕ
with_room None k = None
with_room (Some n) k = Some k

-- the distribution that bounds the channels that another one bounds, by the vector's capacities
abbrev pub bounded_by : List (Option ℕ) → List ℕ → List (Option ℕ)
bounded_by [] ks = []
bounded_by (d ∷ ds) [] = []
bounded_by (d ∷ ds) (k ∷ ks) = with_room d k ∷ bounded_by ds ks

-- an axis begins at the channel's entry in the corner, and goes on in its steps; the size is that of its tokens. That of a
-- self-loop begins at 0, has ones for both, and no bound names it
abbrev pub IsAxisOf : Channel → Option ℕ → Axis → Type 0
IsAxisOf c None a = (a.corner ≡ 0) × (a.step ≡ 1) × (a.size ≡ 1)
IsAxisOf c (Some k) a = (a.corner ≡ k) × (a.step ≡ step_of c) × (a.size ≡ c.size)

-- each entry of the corner has its axis
abbrev pub AreAxesOf : List Channel → List (Option ℕ) → List Axis → Type 0
AreAxesOf cs [] [] = Unit {0}
AreAxesOf (c ∷ cs) (d ∷ ds) (a ∷ axes) = IsAxisOf c d a × AreAxesOf cs ds axes
AreAxesOf cs ds axes = ⊥
