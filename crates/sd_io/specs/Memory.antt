-- What the shelf and the sinks in memory answer to a call.
use Rattle.std.specs.Prelude.{◌≡◌, ℕ, Bool, true, false, ◌==◌, nat_lt, nat_le, ◌||◌, if◌then◌else◌, List, length, Option, None, Some, Result, Err, MatchBool, MatchResult}
use Rattle.std.specs.List.{list_any}
use Rattle.sd_io.specs.Outside.{next_count}
use Rattle.sd_io.specs.declared.shelf.TakeError.{TakeError}
use Rattle.sd_io.specs.declared.shelf.TakeError.TheVariants.{Failed, TooLong, NoMemory}

-- whether the call after so many is among those that are to fail; calls are numbered from 1
abbrev pub is_failing : ℕ → List ℕ → Bool
is_failing calls failing = list_any (λ number. number == next_count calls) failing

-- whether a sink refuses the send after so many: its room is full, or that send is to fail
abbrev pub is_refusing : ℕ → ℕ → ℕ → List ℕ → Bool
is_refusing room held sends failing = nat_le room held || is_failing sends failing

-- a count of faults after a call that fails, or doesn't
abbrev pub faults_after : Bool → ℕ → ℕ
faults_after fails faults = if fails then next_count faults else faults

-- what a take answers: whether it is to fail, the file, the limit
abbrev pub IsTaken : Bool → Option (List ℕ) → ℕ → Result (List ℕ) TakeError → Type 0
IsTaken true file limit result = result ≡ Err Failed
IsTaken false None limit result = result ≡ Err Failed
IsTaken false (Some bytes) limit result = MatchBool (nat_lt limit (length bytes)) (result ≡ Err TooLong)
    (MatchResult result (λ taken. taken ≡ bytes) (λ error. error ≡ NoMemory))
