-- Where engines stand, and how they go on.
use Rattle.std.specs.Prelude.{◌≡◌, ℕ, ◌+◌, ◌≤◌, ◌<◌, Bool, true, false}
use Rattle.sd_base.specs.declared.limits.TheConstants.{STARTS}
use Rattle.sd_base.specs.Net.{Net}
use Rattle.sd_base.specs.Schedules.{HasInputs}
use Rattle.sd_base.specs.SelfTimed.{IsEvent, events_by, starts_by}
use Rattle.sd_base.specs.Untimed.{IsLive}
use Rattle.selftimed.specs.declared.engine.Stage.{Stage}
use Rattle.selftimed.specs.declared.engine.Stage.TheVariants.{Fresh, Running, Spent, OutOfMemory}
use Rattle.selftimed.specs.Moves.{ComesNext}

-- execution of the net never stops: it is live, and each actor has an input
pub record NeverStops (net : Net) : Type 0 where
  pub live : IsLive net
  pub inputs : HasInputs net

-- an engine that has gone to no event yet, and makes at most STARTS starts
pub record IsReady (stage : Stage) (most : ℕ) : Type 0 where
  pub fresh : stage ≡ Fresh
  pub most_is : most ≡ STARTS

-- a running engine stands at an event
pub record IsAtEvent (net : Net) (stage : Stage) (now : ℕ) : Type 0 where
  pub running : stage ≡ Running
  pub event : IsEvent net now

-- an engine that has gone to n events stands at the last of them, with at most STARTS starts
abbrev pub StandsAt : Net → ℕ → Stage → ℕ → Type 0
StandsAt net n Fresh now = n ≡ 0
StandsAt net n Running now = IsEvent net now × (events_by net now ≡ n) × (starts_by net now ≤ STARTS)
StandsAt net n Spent now = ⊥
StandsAt net n OutOfMemory now = ⊥

-- an engine with a bound went to its next event, or the starts of that event would pass the bound
abbrev pub GoesOn : Net → ℕ → Stage → ℕ → Bool → Stage → ℕ → Type 0
GoesOn net most stage now true after t = (after ≡ Running) × ComesNext net stage now t × (starts_by net t ≤ most)
GoesOn net most stage now false after t = (u : ℕ) × ComesNext net stage now u × (most < starts_by net u)

-- an engine that follows so many time units behind stands at an event no later than the first from there on
pub record Follows (net : Net) (period end now : ℕ) : Type 0 where
  pub event : IsEvent net now
  pub soonest : (u : ℕ) → IsEvent net u → end ≤ u + period → now ≤ u
