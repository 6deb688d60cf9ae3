-- Need cycles of a bounded net that gets more room.
use Rattle.std.specs.Prelude.{ℕ, ◌*◌, ◌≤◌, Option, List, length}
use Rattle.critical.specs.declared.cycle.NeedCycle.{NeedCycle}
use Rattle.critical.specs.Cycles.{HoldsOn}
use Rattle.critical.specs.Spaces.{AreSpaces}
use Rattle.sd_base.specs.Net.{Net}
use Rattle.sd_base.specs.Lawful.{Lawful}
use Rattle.sd_base.specs.Rates.{Rate}
use Rattle.storage.specs.Distributions.{AtMost}
use Rattle.storage.specs.BoundedNets.{bound}
use Rattle.storage.specs.ClosedLists.{AgreesOn}

-- a need cycle holds with no less room, and the same room on the channels whose free space is on it
abbrev pub CyclesHoldWithMoreRoom : Type 0
CyclesHoldWithMoreRoom =
    (net : Net) (ds es : List (Option ℕ)) (cycle : NeedCycle) (spaces : List ℕ) → AtMost ds es → HoldsOn (bound net ds) cycle →
    AreSpaces (bound net ds) cycle.steps (length cycle.steps) spaces → AgreesOn spaces ds es → HoldsOn (bound net es) cycle

-- and so bounds the rate there
abbrev pub CyclesBoundRoomierNets : Type 0
CyclesBoundRoomierNets =
    (net : Net) (ds es : List (Option ℕ)) (cycle : NeedCycle) (spaces : List ℕ) (p q : ℕ) → AtMost ds es → HoldsOn (bound net ds) cycle →
    AreSpaces (bound net ds) cycle.steps (length cycle.steps) spaces → AgreesOn spaces ds es → Lawful (bound net es) → Rate (bound net es) p q → p * cycle.time ≤ cycle.rounds * q
