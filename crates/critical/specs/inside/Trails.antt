-- The way back along tight needs, as the firings met on it; firings are read in the second pass round the loop.
use Rattle.std.specs.Prelude.{◌≡◌, ℕ, zero, suc, ◌+◌, ◌-◌, ◌*◌, ◌≤◌, ◌<◌, List, [], ◌∷◌, length, slice_index, slice_index_or}
use Rattle.sd_base.specs.declared.limits.TheConstants.{STARTS, TIME}
use Rattle.firing.specs.declared.table.LoopTable.{LoopTable}
use Rattle.critical.specs.declared.cycle.FiringNo.{FiringNo}
use Rattle.critical.specs.declared.cycle.CycleStep.{CycleStep}
use Rattle.critical.specs.declared.tight.ReadNeed.{ReadNeed}
use Rattle.critical.specs.declared.walk.Met.{Met}
use Rattle.sd_base.specs.Net.{Net, channel_at}
use Rattle.sd_base.specs.Schedules.{time_of, LastNeed, HasInputs, count_of, start_of, end_of}
use Rattle.sd_base.specs.SelfTimed.{earliest}
use Rattle.sd_base.specs.Lawful.{Lawful}
use Rattle.sd_base.specs.Rates.{IsLoopTable}
use Rattle.critical.specs.Spaces.{no_step}

-- how many entries the first n rows have
abbrev pub offset_of : List (List ℕ) → ℕ → ℕ
offset_of rows zero = 0
offset_of rows (suc n) = offset_of rows n + count_of rows n

-- by row how many entries stand before it, and last how many there are
pub record AreOffsets (rows : List (List ℕ)) (offsets : List ℕ) : Type 0 where
  pub long : length offsets ≡ length rows + 1
  pub each : (a : ℕ) → a ≤ length rows → slice_index offsets a ≡ offset_of rows a

-- the lists of a table have a row for each actor, each with a start, and few firings
pub record IsShort (table : LoopTable) : Type 0 where
  pub rows : length table.before ≡ length table.starts
  pub some : (a : ℕ) → a < length table.starts → 1 ≤ count_of table.starts a
  pub few : (a : ℕ) → a < length table.starts → slice_index table.before a + count_of table.starts a ≤ STARTS
  pub all : offset_of table.starts (length table.starts) ≤ STARTS

-- the table is that of the loop of a lawful net whose actors have inputs, and has few firings
pub record IsShortLoop (net : Net) (table : LoopTable) : Type 0 where
  pub laws : Lawful net
  pub inputs : HasInputs net
  pub loop : IsLoopTable net table.entry table.period table.rounds table.before table.starts
  pub short : IsShort table

-- a loop whose second pass can be searched, with where the firings of each actor begin in a list
pub record IsSearchable (net : Net) (table : LoopTable) (offsets : List ℕ) : Type 0 where
  pub short : IsShortLoop net table
  pub placed : AreOffsets table.starts offsets

-- the number of the first firing of an actor in the second pass
abbrev pub second_of : LoopTable → ℕ → ℕ
second_of table a = slice_index table.before a + count_of table.starts a

-- x is a firing of the second pass
pub record IsSecond (table : LoopTable) (x : FiringNo) : Type 0 where
  pub actor : x.actor < length table.starts
  pub from : second_of table x.actor ≤ x.number
  pub below : x.number < second_of table x.actor + count_of table.starts x.actor

-- the place of a firing of the second pass among all of it, actor by actor
abbrev pub class_at : LoopTable → FiringNo → ℕ
class_at table x = offset_of table.starts x.actor + (x.number - second_of table x.actor)

-- the start that is listed for a firing of the second pass, a period before its own
abbrev pub listed_at : LoopTable → FiringNo → ℕ
listed_at table x = start_of table.starts x.actor (x.number - second_of table x.actor)

-- a firing of the source of channel i, read so many passes later in the second pass
pub record IsReadFrom (net : Net) (table : LoopTable) (i number : ℕ) (need : ReadNeed) : Type 0 where
  pub channel : need.channel ≡ i
  pub source : (channel_at net i).source ≡ need.firing.actor
  pub second : IsSecond table need.firing
  pub read : number + need.passes * count_of table.starts need.firing.actor ≡ need.firing.number

-- firing m of the source of channel i ends just when a firing of the second pass starts
abbrev pub EndsJust : Net → LoopTable → FiringNo → ℕ → ℕ → Type 0
EndsJust net table later i m =
    end_of net (earliest net (table.entry + 2 * table.period + 1)) (channel_at net i).source m
    ≡ start_of (earliest net (table.entry + 2 * table.period + 1)) later.actor later.number

-- no last need of the firing on channel i ends just when it starts
abbrev pub IsSlackOn : Net → LoopTable → FiringNo → ℕ → Type 0
IsSlackOn net table later i = (m : ℕ) → LastNeed (channel_at net i) later.number m → ¬ EndsJust net table later i m

-- no channel into the actor of the firing that stands before channel n has a tight need of it
abbrev pub IsSlackBefore : Net → LoopTable → FiringNo → ℕ → Type 0
IsSlackBefore net table later n = (i : ℕ) → i < n → (channel_at net i).target ≡ later.actor → IsSlackOn net table later i

-- a firing of the second pass has a tight last need on a channel, read so many passes later
pub record IsTightNeed (net : Net) (table : LoopTable) (later : FiringNo) (need : ReadNeed) : Type 0 where
  pub place : need.channel < length net.channels
  pub target : (channel_at net need.channel).target ≡ later.actor
  pub number : ℕ
  pub read : IsReadFrom net table need.channel number need
  pub last : LastNeed (channel_at net need.channel) later.number number
  pub ends : EndsJust net table later need.channel number
  pub just : listed_at table need.firing + time_of net need.firing.actor need.firing.number ≡ listed_at table later + need.passes * table.period

-- the firing met next is a tight need of one met
pub record Leads (net : Net) (table : LoopTable) (met next : Met) : Type 0 where
  pub passes : ℕ
  pub on : next.passes ≡ met.passes + passes
  pub time : next.time ≡ met.time + time_of net next.firing.actor next.firing.number
  pub need : IsTightNeed net table met.firing (record { channel = next.channel; firing = next.firing; passes = passes })

-- n needs back, with bounds on passes and times
pub record IsTrail (net : Net) (table : LoopTable) (at : ℕ → Met) (n : ℕ) : Type 0 where
  pub second : (i : ℕ) → i ≤ n → IsSecond table (at i).firing
  pub leads : (i : ℕ) → i < n → Leads net table (at i) (at (suc i))
  pub near : (i : ℕ) → i ≤ n → (at i).passes * table.rounds ≤ i * (2 * STARTS)
  pub soon : (i : ℕ) → i ≤ n → (at i).time ≤ i * TIME

-- what stands for a firing met past the last one
abbrev pub none_met : Met
none_met = record { firing = record { actor = 0; number = 0 }; passes = 0; time = 0; channel = 0 }

abbrev pub met_at : List Met → ℕ → Met
met_at met i = slice_index_or met i none_met

-- of the second pass, actor 0's last firing
abbrev pub first_firing : LoopTable → FiringNo
first_firing table = record { actor = 0; number = second_of table 0 + count_of table.starts 0 - 1 }

-- each firing met next is the first tight need of the one before
abbrev pub AreFirst : Net → LoopTable → List Met → Type 0
AreFirst net table met = (i : ℕ) → suc i < length met → IsSlackBefore net table (met_at met i).firing (met_at met (suc i)).channel

-- a way of tight needs back to a firing that has been met before, whole passes away; all others differ
pub record ComesAgain (net : Net) (table : LoopTable) (met : List Met) (from : ℕ) : Type 0 where
  pub later : from + 1 < length met
  pub few : length met ≤ STARTS + 1
  pub way : IsTrail net table (met_at met) (length met - 1)
  pub same : (met_at met from).firing ≡ (met_at met (length met - 1)).firing
  pub apart : (i j : ℕ) → i < j → j < length met - 1 → ¬ ((met_at met i).firing ≡ (met_at met j).firing)

-- the number of a firing met, with all of them so many passes later
abbrev pub raised_number : Net → LoopTable → ℕ → Met → ℕ
raised_number net table passes met = met.firing.number + (passes - met.passes) * table.rounds * slice_index net.round met.firing.actor

-- the same firing so many rounds lower
abbrev pub lowered_firing : Net → LoopTable → ℕ → ℕ → Met → FiringNo
lowered_firing net table passes rounds met =
    record { actor = met.firing.actor; number = raised_number net table passes met - rounds * slice_index net.round met.firing.actor }

-- the least over the firings met from a place on of the rounds by which each can be lowered
pub record IsLeastRounds (net : Net) (table : LoopTable) (met : List Met) (from passes rounds : ℕ) : Type 0 where
  pub all : (i : ℕ) → from ≤ i → i < length met →
      rounds * slice_index net.round (met_at met i).firing.actor ≤ raised_number net table passes (met_at met i)
  pub some : (i : ℕ) × (from ≤ i) × (i < length met)
      × (raised_number net table passes (met_at met i) < rounds * slice_index net.round (met_at met i).firing.actor + slice_index net.round (met_at met i).firing.actor)

-- the steps forward to firing p, from the firing d further back
abbrev pub steps_of : (ℕ → FiringNo) → (ℕ → ℕ) → ℕ → ℕ → List CycleStep
steps_of at channel p zero = []
steps_of at channel p (suc d) = record { channel = channel (p + d); to = at (p + d) } ∷ steps_of at channel p d

-- each step is along the channel of a firing met behind a place
abbrev pub GoesAlong : List Met → ℕ → List CycleStep → Type 0
GoesAlong met from steps =
    (i : ℕ) → i < length steps → (j : ℕ) × (from < j) × (j < length met) × ((slice_index_or steps i no_step).channel ≡ (met_at met j).channel)
