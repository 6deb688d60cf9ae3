-- Where a run of firings stands.
use Rattle.std.specs.Prelude.{◌≡◌, ℕ, ◌<◌, List, Option, length, slice_index}
use Rattle.sd_base.specs.Net.{Net}
use Rattle.sd_base.specs.Schedules.{Lacks}
use Rattle.sd_base.specs.Untimed.{none_fired, Fires, counts_after, NamesLacks}
use Rattle.firing.specs.Wiring.{IsLevel}

-- the order fires, and these are the counts and tokens after it
pub record IsRun (net : Net) (counts tokens order : List ℕ) : Type 0 where
  pub actors : length counts ≡ length net.times
  pub fires : Fires net none_fired order
  pub reached : (a : ℕ) → a < length net.times → counts_after none_fired order a ≡ slice_index counts a
  pub level : IsLevel net (slice_index counts) (slice_index counts) tokens

-- some order fires that is noted, and these are the counts and tokens after it
pub record IsNoted (holds : List ℕ → Type 0) (net : Net) (counts tokens : List ℕ) : Type 0 where
  pub order : List ℕ
  pub noted : holds order
  pub run : IsRun net counts tokens order

-- a has fired a whole round, or lacks tokens
abbrev pub IsStopped : Net → (ℕ → ℕ) → ℕ → Type 0
IsStopped net v a = v a < slice_index net.round a → Lacks net v a (v a)

-- each actor has fired its round
abbrev pub IsWhole : Net → List ℕ → Type 0
IsWhole net counts = (a : ℕ) → a < length net.times → slice_index counts a ≡ slice_index net.round a

-- not each has, and by actor below its round the first channel is named on which it lacks tokens
pub record IsHalt (net : Net) (counts : List ℕ) (lacks : List (Option ℕ)) : Type 0 where
  pub short : ¬ IsWhole net counts
  pub names : NamesLacks net (slice_index counts) lacks
