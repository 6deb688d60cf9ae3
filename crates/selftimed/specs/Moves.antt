-- Where an engine can be set back, and what a step of it does.
use Rattle.std.specs.Prelude.{◌≡◌, ℕ, ◌+◌, ◌≤◌, ◌<◌, ◌⊎◌, true, List, All, length, map, sum, ◌==◌, nat_eq}
use Rattle.std.specs.List.{list_any, IsDistinct}
use Rattle.sd_base.specs.Net.{Net}
use Rattle.sd_base.specs.Connection.{ends_of}
use Rattle.sd_base.specs.Schedules.{Schedule, Lacks, HasInputs, Earliest, count_of}
use Rattle.sd_base.specs.SelfTimed.{ended_by, earliest, IsEvent, starts_by}
use Rattle.selftimed.specs.declared.engine.Stage.{Stage}
use Rattle.selftimed.specs.declared.engine.Stage.TheVariants.{Fresh, Running, Spent, OutOfMemory}
use Rattle.selftimed.specs.declared.engine.Move.{Move}
use Rattle.selftimed.specs.declared.engine.Move.TheVariants.{Stepped, Stuck}

-- two nets have as many actors, and channels with the same ends
abbrev pub AreAlike : Net → Net → Type 0
AreAlike net other = (length net.times ≡ length other.times) × (ends_of net ≡ ends_of other)

-- t is the first event after now
pub record IsNextEvent (net : Net) (now t : ℕ) : Type 0 where
  pub later : now < t
  pub event : IsEvent net t
  pub quiet : (u : ℕ) → now < u → u < t → ¬ IsEvent net u

-- t is the event to which an engine goes next: 0, or the first event after its moment
abbrev pub ComesNext : Net → Stage → ℕ → ℕ → Type 0
ComesNext net Fresh now t = t ≡ 0
ComesNext net Running now t = IsNextEvent net now t
ComesNext net Spent now t = ⊥
ComesNext net OutOfMemory now t = ⊥

-- nothing runs, and nothing can start
abbrev pub IsStuck : Net → Stage → ℕ → Type 0
IsStuck net Fresh now = (a : ℕ) → a < length net.times → Lacks net (λ b. 0) a 0
IsStuck net Running now =
    ((a : ℕ) → a < length net.times → ended_by net now (earliest net (now + 1)) a ≡ count_of (earliest net (now + 1)) a)
    × ((a : ℕ) → a < length net.times → Lacks net (count_of (earliest net (now + 1))) a (count_of (earliest net (now + 1)) a))
IsStuck net Spent now = ⊥
IsStuck net OutOfMemory now = ⊥

-- the earliest schedule up to and with t has more starts than the bound
abbrev pub Overruns : Net → ℕ → ℕ → Type 0
Overruns net t most = (s : Schedule) → Earliest net (t + 1) s → most < sum (map length s)

-- an engine's bound is passed: it was before, or the starts of the next event pass it
abbrev pub IsSpent : Net → ℕ → Stage → ℕ → Type 0
IsSpent net most stage now = (stage ≡ Stage.Spent) ⊎ ((u : ℕ) × ComesNext net stage now u × Overruns net u most)

-- an engine went to its next event: it wasn't stuck, and the starts up to and with the event are within the bound
pub record Steps (net : Net) (most : ℕ) (stage : Stage) (now : ℕ) (after : Stage) (t : ℕ) : Type 0 where
  pub runs : after ≡ Running
  pub free : ¬ IsStuck net stage now
  pub next : ComesNext net stage now t
  pub inputs : HasInputs net
  pub within : starts_by net t ≤ most

-- what an engine that stood at a stage and moment answers, and where it stands then
abbrev pub IsMove : Net → ℕ → Stage → ℕ → Move → Stage → ℕ → Type 0
IsMove net most stage now Stepped after t = Steps net most stage now after t
IsMove net most stage now Stuck after t = (after ≡ stage) × (t ≡ now) × IsStuck net stage now
IsMove net most stage now Move.Spent after t = (after ≡ Stage.Spent) × IsSpent net most stage now

-- the actors of which firings start at a moment, each once
pub record AreStarters (net : Net) (t : ℕ) (list : List ℕ) : Type 0 where
  pub actors : All (λ a. a < length net.times) list
  pub start : All (λ a. count_of (earliest net t) a < count_of (earliest net (t + 1)) a) list
  pub listed : (a : ℕ) → a < length net.times → count_of (earliest net t) a < count_of (earliest net (t + 1)) a → list_any (λ (x : ℕ). x == a) list ≡ true
  pub once : IsDistinct nat_eq list
