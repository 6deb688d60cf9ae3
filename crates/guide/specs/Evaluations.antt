-- What is answered of a distribution.
use Rattle.std.specs.Prelude.{◌≡◌, ℕ, ◌*◌, ◌≤◌, ◌↔◌, Contains, Option, List, length, slice_index}
use Rattle.sd_base.specs.declared.limits.TheConstants.{NET_CHANNELS}
use Rattle.sd_base.specs.declared.numbers.Fraction.{Fraction}
use Rattle.sd_base.specs.Net.{Net}
use Rattle.sd_base.specs.Lawful.{Lawful}
use Rattle.sd_base.specs.Schedules.{HasInputs}
use Rattle.sd_base.specs.Connection.{IsConnected}
use Rattle.sd_base.specs.Rates.{Rate}
use Rattle.sd_base.specs.Untimed.{IsBlockedBy, IsLive}
use Rattle.firing.specs.declared.table.LoopTable.{LoopTable}
use Rattle.lasso.specs.LoopAnswers.{IsFound, IsRunRefusal}
use Rattle.lasso.specs.RunError.{RunError}
use Rattle.lasso.specs.RunError.TheVariants.{StatesSpent, TooManyStarts, NoMemory}
use Rattle.critical.specs.declared.cycle.NeedCycle.{NeedCycle}
use Rattle.critical.specs.CriticalCycles.{IsCriticalCycleOf}
use Rattle.critical.specs.Spaces.{IsRising, AreSpaces}
use Rattle.storage.specs.Distributions.{AtMost, CanHold, IsDistribution}
use Rattle.storage.specs.BoundedNets.{HasNoSpaces, bound}
use Rattle.storage.specs.ShownSpaces.{ShowsSpace}
use Rattle.storage.specs.ClosedLists.{AgreesOn}
use Rattle.guide.specs.declared.rating.Evaluation.{Evaluation}
use Rattle.guide.specs.declared.rating.Outcome.{Outcome}
use Rattle.guide.specs.declared.rating.Outcome.TheVariants.{Live, Blocked}

-- the distribution bounds a connected net to one that can be executed: all channels but self-loops have a capacity, and each
-- actor has an input
pub record IsEvaluable (net : Net) (ds : List (Option ℕ)) : Type 0 where
  pub none : HasNoSpaces net
  pub distribution : IsDistribution net.channels ds
  pub can : CanHold net.channels ds
  pub few : length (bound net ds).channels ≤ NET_CHANNELS
  pub connected : IsConnected net
  pub inputs : HasInputs (bound net ds)

-- the loop of the bounded net and its critical cycle, whose rounds by its time are the rate; the channels to enlarge are
-- those whose free space is on the cycle
pub record IsLiveOutcome (net : Net) (ds : List (Option ℕ)) (states : ℕ) (rate : Fraction) (enlarge : List ℕ) (table : LoopTable) (cycle : NeedCycle) : Type 0 where
  pub found : IsFound (bound net ds) states table
  pub critical : IsCriticalCycleOf (bound net ds) table cycle
  pub same : cycle.rounds * rate.den ≡ rate.num * cycle.time
  pub channels : AreSpaces (bound net ds) cycle.steps (length cycle.steps) enlarge

-- the counts that block the bounded net; the channels to enlarge are those that they show, ascending
pub record IsBlockedOutcome (net : Net) (ds : List (Option ℕ)) (rate : Fraction) (enlarge : List ℕ) (counts : List ℕ) (lacks : List (Option ℕ)) : Type 0 where
  pub blocked : IsBlockedBy (bound net ds) counts lacks
  pub zero : rate.num ≡ 0
  pub rising : IsRising enlarge
  pub channels : (c : ℕ) → Contains enlarge c ↔ ShowsSpace net ds (slice_index counts) c

abbrev pub IsOutcome : Net → List (Option ℕ) → ℕ → Fraction → List ℕ → Outcome → Type 0
IsOutcome net ds states rate enlarge (Live table cycle) = IsLiveOutcome net ds states rate enlarge table cycle
IsOutcome net ds states rate enlarge (Blocked counts lacks) = IsBlockedOutcome net ds rate enlarge counts lacks

-- each distribution that has the same capacities on these channels, and no less elsewhere, has no greater rate
abbrev pub Bounds : Net → List (Option ℕ) → Fraction → List ℕ → Type 0
Bounds net ds rate shown =
    (es : List (Option ℕ)) (p q : ℕ) → AtMost ds es → AgreesOn shown ds es → Lawful (bound net es) → Rate (bound net es) p q → p * rate.den ≤ rate.num * q

-- the rate of the bounded net, what shows it, and the channels without which no room elsewhere raises it
pub record IsEvaluated (net : Net) (ds : List (Option ℕ)) (states : ℕ) (e : Evaluation) : Type 0 where
  pub rate : Rate (bound net ds) e.rate.num e.rate.den
  pub outcome : IsOutcome net ds states e.rate e.enlarge e.outcome
  pub bounds : Bounds net ds e.rate e.enlarge

-- the loops that were run for an answer
abbrev pub loops_run : Outcome → ℕ
loops_run (Live table cycle) = 1
loops_run (Blocked counts lacks) = 0

-- why a distribution isn't evaluated: its net is live, and its loop isn't run to the end; or want of memory
abbrev pub IsRefused : Net → List (Option ℕ) → ℕ → RunError → Type 0
IsRefused net ds states StatesSpent = IsLive (bound net ds) × IsRunRefusal (bound net ds) states StatesSpent
IsRefused net ds states TooManyStarts = IsLive (bound net ds) × IsRunRefusal (bound net ds) states TooManyStarts
IsRefused net ds states NoMemory = Unit {0}
