-- What the reader's loop says where it stops. Nothing public speaks of it.
use Rattle.std.specs.Prelude.{◌≡◌, ◌≢◌, ℕ, ◌-◌, ◌<◌, ◌≤◌, true, List, length, take, slice_index, Some}
use Rattle.file_text.specs.declared.error.TextError.{TextError}
use Rattle.file_text.specs.declared.error.TextError.TheVariants.{Syntax, Unsupported}
use Rattle.file_text.specs.declared.taken.Taken.{Taken}
use Rattle.file_text.specs.declared.taken.Taken.TheVariants.{Goes}
use Rattle.file_text.specs.Fault.{KnownAt}
use Rattle.file_text.specs.inside.Utf8.{due_after}
use Rattle.file_text.specs.inside.Machine.{class_of, table, State, run, start, Takes}

-- the machine stops at byte n with this answer
pub record IsStop (bytes : List ℕ) (n : ℕ) (answer : Taken) : Type 0 where
  pub state : State
  pub after : State
  pub within_bytes : n < length bytes
  pub here : run true (Some start) (take n bytes) ≡ Some state
  pub takes : Takes (due_after state.due (slice_index bytes n)) (table state.spot.0 state.spot.1 (class_of (slice_index bytes n)) (slice_index bytes n)) answer after
  pub stops : answer ≢ Goes

-- a fault that a literal shows
abbrev pub IsLiteral : TextError → Type 0
IsLiteral (Unsupported p what) = Unit {0}
IsLiteral f = ⊥

-- the fault where bytes leave the grammar at n, and the machine has found no too deep an element
abbrev pub FaultAt : List ℕ → ℕ → TextError → Type 0
FaultAt bytes n (Syntax p) = (p ≡ n) × ((f : TextError) → IsLiteral f → KnownAt bytes n f → ⊥)
FaultAt bytes n (Unsupported p what) = KnownAt bytes n (Unsupported p what)
FaultAt bytes n f = ⊥

-- the place behind the last quote before a place
pub record BehindQuote (bytes : List ℕ) (n quote p : ℕ) : Type 0 where
  pub within : p ≤ n
  pub behind : 0 < p → slice_index bytes (p - 1) ≡ quote
  pub last : (k : ℕ) → p ≤ k → k < n → slice_index bytes k ≢ quote
