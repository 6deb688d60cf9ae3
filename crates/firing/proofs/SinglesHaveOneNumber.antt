-- Each list of a list of singles has one number.
use Rattle.std.proofs.Common.{◌≡◌, ℕ, ◌<◌, List, [], ◌∷◌, length, map, ap}
use Rattle.std.specs.Prelude.{slice_index_or}
use Rattle.std.proofs.lemmas.List.{get_or-map, length-map}

pub single-length : (xs : List ℕ) (i : ℕ) → i < length (map (λ t. t ∷ []) xs) → length (slice_index_or (map (λ t. t ∷ []) xs) i []) ≡ 1
single-length xs i below = ap length (get_or-map (λ (t : ℕ). t ∷ []) xs i 0 [] (rw length-map at below))
