-- What an execution leaves behind: its events and its starts.
use Rattle.std.specs.Prelude.{◌≡◌, ℕ, ◌-◌, ◌≤◌, ◌<◌, List, [], length, replicate, slice_index}
use Rattle.sd_base.specs.declared.limits.TheConstants.{STARTS}
use Rattle.sd_base.specs.Net.{Net}
use Rattle.sd_base.specs.SelfTimed.{IsEvent, events_by, starts_by}
use Rattle.selftimed.specs.declared.engine.Stage.{Stage}
use Rattle.selftimed.specs.declared.engine.Stage.TheVariants.{Fresh, Running, Spent, OutOfMemory}
use Rattle.selftimed.specs.Moves.{ComesNext}
use Rattle.loops.specs.StartRows.{AreStarts}

-- the moments of the events up to and with one of them, ascending
pub record AreEvents (net : Net) (now : ℕ) (moments : List ℕ) : Type 0 where
  pub each : (i : ℕ) → i < length moments → IsEvent net (slice_index moments i) × (slice_index moments i ≤ now)
  pub rise : (i j : ℕ) → i < j → j < length moments → slice_index moments i < slice_index moments j
  pub all : (u : ℕ) → IsEvent net u → u ≤ now → (i : ℕ) × (i < length moments) × (slice_index moments i ≡ u)

-- all events up to and with one of them, and the starts up to there
pub record IsTrace (net : Net) (now : ℕ) (moments : List ℕ) (starts : List (List ℕ)) : Type 0 where
  pub events : AreEvents net now moments
  pub collected : AreStarts net now starts

-- before the first event nothing is there, and then all up to and with the last one
abbrev pub HasTrace : Net → Stage → ℕ → List ℕ → List (List ℕ) → Type 0
HasTrace net Fresh now moments starts = (moments ≡ []) × (starts ≡ replicate (length net.times) [])
HasTrace net Running now moments starts = IsTrace net now moments starts
HasTrace net Spent now moments starts = ⊥
HasTrace net OutOfMemory now moments starts = ⊥

-- a moment is that of the next event after those that are there
abbrev pub IsTraceBefore : Net → ℕ → List ℕ → List (List ℕ) → Type 0
IsTraceBefore net t moments starts = (stage : Stage) × (now : ℕ) × HasTrace net stage now moments starts × ComesNext net stage now t

-- a moment is the last of some
abbrev pub IsLastOf : List ℕ → ℕ → Type 0
IsLastOf moments m = (1 ≤ length moments) × (slice_index moments (length moments - 1) ≡ m)

-- an execution left behind all up to the last event that is there, if one is: one of the first `states` events, with at most
-- STARTS starts up to it
pub record IsAllowed (net : Net) (states now : ℕ) (moments : List ℕ) (starts : List (List ℕ)) : Type 0 where
  pub trace : IsTrace net now moments starts
  pub number : events_by net now ≤ states
  pub few : starts_by net now ≤ STARTS

abbrev pub AreAllowed : Net → ℕ → List ℕ → List (List ℕ) → Type 0
AreAllowed net states moments starts = (m : ℕ) → IsLastOf moments m → IsAllowed net states m moments starts
