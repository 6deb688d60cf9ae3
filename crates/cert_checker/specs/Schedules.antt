-- Rates, and schedules that reach them.
use Rattle.std.specs.Prelude.{◌≡◌, ℕ, ◌*◌, ◌≤◌, ◌<◌, length}
use Rattle.std.specs.Int.{IsGcd}
use Rattle.sd_base.specs.Net.{Net}
use Rattle.periodic.specs.ScheduleLines.{LineHolds}
use Rattle.periodic.specs.declared.schedule.Periodic.{Periodic}

-- a rate above 0 in lowest terms
pub record IsRateLine (rate : ℕ × ℕ) : Type 0 where
  pub some : 1 ≤ rate.0
  pub positive : 1 ≤ rate.1
  pub lowest : IsGcd rate.0 rate.1 1

-- a line for each actor, and as many rounds in the period as the rate has
pub record IsScheduleLine (net : Net) (rate : ℕ × ℕ) (schedule : Periodic) : Type 0 where
  pub passes : 1 ≤ schedule.period
  pub turns : 1 ≤ schedule.rounds
  pub actors : length schedule.starts ≡ length net.times
  pub ratio : schedule.rounds * rate.1 ≡ rate.0 * schedule.period

-- the line of actor a is wrong, and no earlier one is
pub record IsFirstFaulty (net : Net) (schedule : Periodic) (a : ℕ) : Type 0 where
  pub actor : a < length net.times
  pub wrong : LineHolds net schedule.period schedule.rounds schedule.starts a → ⊥
  pub earlier : (b : ℕ) → b < a → LineHolds net schedule.period schedule.rounds schedule.starts b
