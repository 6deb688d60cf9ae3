-- From which moment on all is as it is a period later.
use Rattle.std.specs.Prelude.{◌≡◌, ℕ, ◌+◌, ◌-◌, ◌≤◌, ◌<◌, ◌⊎◌, List, length, slice_index}
use Rattle.sd_base.specs.Net.{Net}
use Rattle.sd_base.specs.Schedules.{Schedule, count_of, start_of, end_of, time_of}
use Rattle.loops.specs.StartRows.{AreBy}

-- firing j of actor a starts a period after the one v firings before it
pub record IsLike (s : Schedule) (period : ℕ) (v : ℕ → ℕ) (a j : ℕ) : Type 0 where
  pub after : v a ≤ j
  pub apart : start_of s a (j - v a) + period ≡ start_of s a j

-- it has ended a period after a moment, and the one v firings before it by this moment
pub record IsOver (net : Net) (s : Schedule) (period : ℕ) (v : ℕ → ℕ) (moment a j : ℕ) : Type 0 where
  pub later : end_of net s a j ≤ moment + period
  pub earlier : v a ≤ j → end_of net s a (j - v a) ≤ moment

-- each firing of a schedule is like the one before it, or is over
abbrev pub IsSettled : Net → Schedule → ℕ → (ℕ → ℕ) → ℕ → Type 0
IsSettled net s period v moment = (a j : ℕ) → j < count_of s a → IsLike s period v a j ⊎ IsOver net s period v moment a j

-- ---- by rows of starts

-- start j of a row stands a period after the one so many before it
pub record IsRowLike (row : List ℕ) (more period j : ℕ) : Type 0 where
  pub after : more ≤ j
  pub apart : slice_index row (j - more) + period ≡ slice_index row j

-- the firing of start j of actor a's row has ended a period after a moment, and the one so many before it by this moment
pub record IsRowOver (net : Net) (a : ℕ) (row : List ℕ) (more period moment j : ℕ) : Type 0 where
  pub later : slice_index row j + time_of net a j ≤ moment + period
  pub earlier : more ≤ j → slice_index row (j - more) + time_of net a (j - more) ≤ moment

-- all starts of a row but the first n are like the ones so many before them, and the last of these n isn't
pub record AreLikeAfter (row : List ℕ) (more period n : ℕ) : Type 0 where
  pub within : n ≤ length row
  pub like : (j : ℕ) → n ≤ j → j < length row → IsRowLike row more period j
  pub unlike : 1 ≤ n → IsRowLike row more period (n - 1) → ⊥

-- by a moment each firing of a row that isn't like is over
abbrev pub IsRowSettled : Net → ℕ → List ℕ → ℕ → ℕ → ℕ → Type 0
IsRowSettled net a row more period moment = (j : ℕ) → j < length row → IsRowLike row more period j ⊎ IsRowOver net a row more period moment j

-- and by no earlier one
pub record IsFirstSettled (net : Net) (a : ℕ) (row : List ℕ) (more period moment : ℕ) : Type 0 where
  pub settled : IsRowSettled net a row more period moment
  pub first : (x : ℕ) → ((j : ℕ) → j < length row → (IsRowLike row more period j → ⊥) → IsRowOver net a row more period x j) → moment ≤ x

-- in a row of starts so many come after a moment, and by it each firing that isn't like the one so many before it is over
pub record Recurs (net : Net) (a : ℕ) (row : List ℕ) (moment period more : ℕ) : Type 0 where
  pub before : ℕ
  pub by : AreBy row moment before
  pub number : length row ≡ before + more
  pub settled : IsRowSettled net a row more period moment
