-- The order of storage distributions by storage, and those with a step more room.
use Rattle.std.specs.Prelude.{◌≡◌, ℕ, ◌<◌, ◌⊎◌, All, false, Option, List, [], ◌∷◌, slice_index_or}
use Rattle.sd_base.specs.Net.{Channel, nowhere}
use Rattle.storage.specs.CapacityOrder.{no_later}
use Rattle.storage.specs.Distributions.{enlarged, storage_of}
use Rattle.storage.specs.Steps.{step_of}

-- the distribution with a step more room on channel c
abbrev pub stepped : List Channel → List (Option ℕ) → ℕ → List (Option ℕ)
stepped cs ds c = enlarged ds c (step_of (slice_index_or cs c nowhere))

-- the first distribution needs less storage, or as much and is lexicographically earlier
abbrev pub IsBefore : List Channel → List (Option ℕ) → List (Option ℕ) → Type 0
IsBefore cs ds es =
    (storage_of cs ds < storage_of cs es)
    ⊎ ((storage_of cs ds ≡ storage_of cs es) × (no_later es ds ≡ false))

-- each distribution stands before all later ones, so that none is there twice
abbrev pub AreInOrder : List Channel → List (List (Option ℕ)) → Type 0
AreInOrder cs [] = Unit {0}
AreInOrder cs (ds ∷ rest) = All (IsBefore cs ds) rest × AreInOrder cs rest
