-- What a need cycle says of the rate of a net.
use Rattle.std.specs.Prelude.{◌≡◌, ℕ, ◌*◌, ◌≤◌, List}
use Rattle.critical.specs.declared.cycle.NeedCycle.{NeedCycle}
use Rattle.sd_base.specs.Net.{Net}
use Rattle.sd_base.specs.Schedules.{HasInputs}
use Rattle.sd_base.specs.Lawful.{Lawful}
use Rattle.sd_base.specs.Rates.{IsLoopTable, Rate, HasUpperSide}
use Rattle.sd_base.specs.Connection.{IsStronglyConnected}
use Rattle.critical.specs.Cycles.{HoldsOn}

-- the rounds of a need cycle by its time are at least the rate
abbrev pub CyclesBoundTheRate : Type 0
CyclesBoundTheRate =
    (net : Net) (cycle : NeedCycle) (p q : ℕ) → Lawful net → HoldsOn net cycle → Rate net p q → p * cycle.time ≤ cycle.rounds * q

-- where each actor leads to each, the rounds of a need cycle by its time, reduced by any common factor, are an upper side
abbrev pub CyclesMeetTheUpperSide : Type 0
CyclesMeetTheUpperSide =
    (net : Net) (cycle : NeedCycle) (p q g : ℕ) → Lawful net → IsStronglyConnected net → HoldsOn net cycle →
    cycle.rounds ≡ g * p → cycle.time ≡ g * q → HasUpperSide net p q

-- a need cycle with as many rounds per time as these rounds per this period
pub record HasCriticalCycle (net : Net) (period rounds : ℕ) : Type 0 where
  pub cycle : NeedCycle
  pub holds : HoldsOn net cycle
  pub rate : cycle.rounds * period ≡ rounds * cycle.time

-- a net that comes round a loop has a need cycle whose rounds by its time are the loop's rounds by its period
abbrev pub LoopsHaveACriticalCycle : Type 0
LoopsHaveACriticalCycle =
    (net : Net) (entry period rounds : ℕ) (before : List ℕ) (starts : List (List ℕ)) → Lawful net → HasInputs net →
    IsLoopTable net entry period rounds before starts → HasCriticalCycle net period rounds
