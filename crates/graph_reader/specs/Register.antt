-- Rows that are found by their names.
use Rattle.std.specs.Prelude.{◌≡◌, ℕ, Bool, List, Option, Some, None, if◌then◌else◌}
use Rattle.std.specs.List.{IsDistinct}
use Rattle.std.specs.Str.{bytes_eq}

-- the keys are the names in order, and no two of them are the same
pub record AreNamed (names keys : List (List ℕ)) : Type 0 where
  pub same : keys ≡ names
  pub differ : IsDistinct bytes_eq names

-- an element, where it passes a test
abbrev pub tested : {A : Type 0} → (A → Bool) → Option A → Option A
tested test None = None
tested test (Some x) = if test x then Some x else None
