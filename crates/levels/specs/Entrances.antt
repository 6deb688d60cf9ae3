-- With which numbers a gate is entered for distributions that are visited by levels.
use Rattle.std.specs.Prelude.{ℕ, ◌+◌, ◌==◌, Option, List, [], ◌∷◌, ◌++◌, if◌then◌else◌}
use Rattle.sd_base.specs.Net.{Channel}
use Rattle.storage.specs.Distributions.{storage_of}

-- how many of the distributions need so much storage
abbrev pub many_with : List Channel → ℕ → List (List (Option ℕ)) → ℕ
many_with cs storage [] = 0
many_with cs storage (ds ∷ dss) = (if storage_of cs ds == storage then 1 else 0) + many_with cs storage dss

-- each of the distributions that stand after earlier ones entered: its storage is the level, and its number counts those before
-- it that need as much
abbrev pub EnterAfter : List Channel → (ℕ → ℕ → Type 0) → List (List (Option ℕ)) → List (List (Option ℕ)) → Type 0
EnterAfter cs entered earlier [] = Unit {0}
EnterAfter cs entered earlier (ds ∷ dss) = entered (storage_of cs ds) (many_with cs (storage_of cs ds) earlier) × EnterAfter cs entered (earlier ++ ds ∷ []) dss

-- each distribution entered with its storage for the level and its place among those of the level
abbrev pub EnterByLevels : List Channel → (ℕ → ℕ → Type 0) → List (List (Option ℕ)) → Type 0
EnterByLevels cs entered dss = EnterAfter cs entered [] dss
