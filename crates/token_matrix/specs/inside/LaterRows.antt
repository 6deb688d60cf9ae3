-- Rows of entries, and the row of several tokens.
use Rattle.std.specs.Prelude.{◌≡◌, ℕ, ◌+◌, ◌≤◌, ◌<◌, ◌⊎◌, max, List, [], ◌∷◌, length, map, slice_index_or, Option, Some, None}
use Rattle.std.specs.Option.{option_map}

-- the later of two entries
abbrev pub later : Option ℕ → Option ℕ → Option ℕ
later None y = y
later (Some x) None = Some x
later (Some x) (Some y) = Some (max x y)

-- the later entry at each place
abbrev pub later_row : List (Option ℕ) → List (Option ℕ) → List (Option ℕ)
later_row [] b = []
later_row (x ∷ a) [] = x ∷ a
later_row (x ∷ a) (y ∷ b) = later x y ∷ later_row a b

-- each entry is t more
abbrev pub shifted : ℕ → List (Option ℕ) → List (Option ℕ)
shifted t row = map (option_map (λ e. e + t)) row

-- no entry of a row is above a number
abbrev pub AreWithin : ℕ → List (Option ℕ) → Type 0
AreWithin most row = (p e : ℕ) → slice_index_or row p None ≡ Some e → e ≤ most

-- the entry 0 in one column, and no other
pub record IsUnit (size column : ℕ) (row : List (Option ℕ)) : Type 0 where
  pub long : length row ≡ size
  pub here : slice_index_or row column None ≡ Some 0
  pub alone : (p e : ℕ) → slice_index_or row p None ≡ Some e → (p ≡ column) × (e ≡ 0)

-- a row has an entry in a column, of at least e
abbrev pub Reaches : List (Option ℕ) → ℕ → ℕ → Type 0
Reaches row p e = (d : ℕ) × (slice_index_or row p None ≡ Some d) × (e ≤ d)

-- each of the rows has so many entries
abbrev pub AreWide : ℕ → List (List (Option ℕ)) → Type 0
AreWide size rows = (k : ℕ) → k < length rows → length (slice_index_or rows k []) ≡ size

-- a row has become the latest of what it was and of all rows of a list
pub record IsRaised (rows : List (List (Option ℕ))) (old new : List (Option ℕ)) : Type 0 where
  pub long : length new ≡ length old
  pub kept : (p e : ℕ) → slice_index_or old p None ≡ Some e → Reaches new p e
  pub raised : (k p e : ℕ) → k < length rows → slice_index_or (slice_index_or rows k []) p None ≡ Some e → Reaches new p e
  pub just : (p e : ℕ) → slice_index_or new p None ≡ Some e →
      (slice_index_or old p None ≡ Some e) ⊎ ((k : ℕ) × (k < length rows) × (slice_index_or (slice_index_or rows k []) p None ≡ Some e))
