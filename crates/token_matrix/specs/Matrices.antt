-- Matrices of max-plus algebra, which carry stamps through a round.
use Rattle.std.specs.Prelude.{◌≡◌, ℕ, ◌+◌, ◌*◌, ◌≤◌, ◌<◌, ◌↔◌, max, All, List, [], ◌∷◌, map, length, slice_index_or, Option, Some, None}
use Rattle.sd_base.specs.declared.tables.GraphFile.{GraphFile}
use Rattle.sd_base.specs.declared.tables.SharedRow.{SharedRow}
use Rattle.sd_base.specs.declared.limits.TheConstants.{STAMPS, TIME, ROUND}
use Rattle.sd_base.specs.Scenarios.{shared_count}
use Rattle.token_matrix.specs.Stamps.{AreStampsOf}

-- an entry of a row says how long after its column's token the row's token comes at the least
abbrev pub apply_row : List (Option ℕ) → List ℕ → ℕ
apply_row [] x = 0
apply_row (e ∷ row) [] = 0
apply_row (None ∷ row) (s ∷ x) = apply_row row x
apply_row (Some e ∷ row) (s ∷ x) = max (s + e) (apply_row row x)

-- the stamps after a round
abbrev pub applied : List (List (Option ℕ)) → List ℕ → List ℕ
applied rows x = map (λ row. apply_row row x) rows

-- the entry of row j and column i
abbrev pub entry_at : List (List (Option ℕ)) → ℕ → ℕ → Option ℕ
entry_at rows j i = slice_index_or (slice_index_or rows j []) i None

-- as many rows as each of them has entries, and no more than a matrix may have
pub record IsSquare (rows : List (List (Option ℕ))) : Type 0 where
  pub few : length rows ≤ STAMPS
  pub square : All (λ row. length row ≡ length rows) rows

-- the matrix of a scenario: it carries the stamps before a round to those after it. Each token that is left depends on one
-- that was there, an entry of 0 leads to an earlier token, and no entry is above the time of the greatest round
pub record IsMatrix (shared : List SharedRow) (g : GraphFile) (gamma : List ℕ) (rows : List (List (Option ℕ))) : Type 0 where
  pub size : length rows ≡ shared_count shared
  pub square : (j : ℕ) → j < shared_count shared → length (slice_index_or rows j []) ≡ shared_count shared
  pub carries : (x y : List ℕ) → length x ≡ shared_count shared → AreStampsOf shared g gamma x y ↔ (y ≡ applied rows x)
  pub full : (j : ℕ) → j < shared_count shared → (i : ℕ) × (e : ℕ) × (entry_at rows j i ≡ Some e)
  pub falls : (j i : ℕ) → entry_at rows j i ≡ Some 0 → j < i
  pub short : (j i e : ℕ) → entry_at rows j i ≡ Some e → e ≤ TIME * ROUND

-- the latest of stamps
abbrev pub greatest : List ℕ → ℕ
greatest [] = 0
greatest (x ∷ xs) = max x (greatest xs)
