-- Need cycles on no free space.
use Rattle.std.specs.Prelude.{◌≢◌, ℕ, ◌*◌, ◌<◌, length}
use Rattle.critical.specs.declared.cycle.NeedCycle.{NeedCycle}
use Rattle.sd_base.specs.Net.{Net}
use Rattle.critical.specs.Cycles.{HoldsOn}
use Rattle.critical.specs.Spaces.{IsSpaceAt}

-- a need cycle that goes along no free space
pub record IsUnspaced (net : Net) (cycle : NeedCycle) : Type 0 where
  pub holds : HoldsOn net cycle
  pub none : (i c : ℕ) → i < length cycle.steps → ¬ IsSpaceAt net cycle.steps i c

-- no need cycle on no free space has as many rounds per time as these rounds per this period
abbrev pub HasNoUnspaced : Net → ℕ → ℕ → Type 0
HasNoUnspaced net period rounds = (cycle : NeedCycle) → IsUnspaced net cycle → cycle.rounds * period ≢ rounds * cycle.time
