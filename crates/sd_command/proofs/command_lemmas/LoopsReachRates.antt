-- The rate in lowest terms, which the loop's schedule reaches and its need cycle bounds.
use Rattle.std.proofs.Common.{◌≡◌, ℕ, suc, ◌*◌, ◌/◌, ◌<◌, sym, ap, ◌∙◌, arith}
use Rattle.std.specs.Int.{IsGcd}
use Rattle.sd_base.specs.Net.{Net}
use Rattle.std.proofs.Math.Nat.{mul-div_cancel', eq_of_mul-eq-mul_left}
use Rattle.sd_base.proofs.LeastMultiplesDivide.{gcd_pos, quotients, some_gcd}
use Rattle.firing.specs.declared.table.LoopTable.{LoopTable}
use Rattle.lasso.specs.LoopAnswers.{IsFound}
use Rattle.periodic.specs.declared.schedule.Periodic.{Periodic}
use Rattle.periodic.specs.LoopSchedules.{IsScheduleOf}
use Rattle.critical.specs.declared.cycle.NeedCycle.{NeedCycle}
use Rattle.critical.specs.CriticalCycles.{IsCriticalCycleOf}
use Rattle.sd_command.specs.commands.Rates.{IsRateShown}

-- two numbers over their greatest common divisor
pub record Lowest (n d : ℕ) : Type 0 where
  pub num : ℕ
  pub den : ℕ
  pub common : ℕ
  pub some : 0 < common
  pub first : n ≡ common * num
  pub second : d ≡ common * den
  pub lowest : IsGcd num den 1

pub lowest_of : (n d : ℕ) → 0 < n → Lowest n d
lowest_of n d positive =
    let found = some_gcd (suc d) n d (omega arith) in
    let g : ℕ = found.0 in
    let some : 0 < g = gcd_pos n d g positive found.1 in
    record {
      num = n / g;
      den = d / g;
      common = g;
      some = some;
      first = sym (mul-div_cancel' g found.1.0);
      second = sym (mul-div_cancel' g found.1.1);
      lowest = quotients n d g some found.1;
    }

-- the rate of a net that runs round this loop, with this schedule and this cycle
pub rate-shown : (net : Net) (states : ℕ) (table : LoopTable) (schedule : Periodic) (cycle : NeedCycle) → IsFound net states table → IsScheduleOf net table schedule → IsCriticalCycleOf net table cycle → IsRateShown net states schedule cycle
rate-shown net states table schedule cycle found of_loop critical =
    let low : Lowest table.rounds table.period = lowest_of table.rounds table.period found.loop.turns in
    let g : ℕ = low.common in
    let turns : table.rounds ≡ g * low.num = low.first in
    let passes : table.period ≡ g * low.den = low.second in
    record {
      num = low.num;
      den = low.den;
      rate = found.rate low.num low.den g turns passes low.lowest;
      table = table;
      found = found;
      of_loop = of_loop;
      critical = critical;
      holds = critical.holds;
      reached =
          let a : schedule.rounds * low.den ≡ (g * low.num) * low.den = ap (λ (n : ℕ). n * low.den) (of_loop.rounds ∙ turns) in
          let b : low.num * schedule.period ≡ low.num * (g * low.den) = ap (λ (n : ℕ). low.num * n) (of_loop.period ∙ passes) in
          omega arith;
      bounded =
          let a : cycle.rounds * table.period ≡ cycle.rounds * (g * low.den) = ap (λ (n : ℕ). cycle.rounds * n) passes in
          let b : table.rounds * cycle.time ≡ (g * low.num) * cycle.time = ap (λ (n : ℕ). n * cycle.time) turns in
          let c : g * (cycle.rounds * low.den) ≡ g * (low.num * cycle.time) = omega (arith, critical.rate) in
          eq_of_mul-eq-mul_left g low.some _ _ c;
    }
