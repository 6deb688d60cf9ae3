-- The counts that a member's children begin from are reached.
use Rattle.std.proofs.Common.{◌≡◌, ℕ, ◌*◌, ◌≤◌, ◌<◌, Option, List, ⊎_elim, ap, arith, mul-le-mul_right}
use Rattle.std.proofs.lemmas.Bool.{cases_lt}
use Rattle.sd_base.specs.declared.numbers.Fraction.{Fraction}
use Rattle.sd_base.specs.Net.{Net}
use Rattle.sd_base.specs.Lawful.{Lawful}
use Rattle.sd_base.specs.Rates.{Rate}
use Rattle.sd_base.specs.Untimed.{IsLive}
use Rattle.firing.specs.declared.table.LoopTable.{LoopTable}
use Rattle.critical.specs.declared.cycle.NeedCycle.{NeedCycle}
use Rattle.critical.specs.CriticalCycles.{IsCriticalCycleOf}
use Rattle.storage.specs.BoundedNets.{bound}
use Rattle.storage.proofs.MembersCover.{running-live}

-- a distribution whose net has a loop with a critical cycle is live
pub looped-live : (net : Net) → Lawful net → (ds : List (Option ℕ)) (rate : Fraction) (table : LoopTable) (cycle : NeedCycle) → Rate (bound net ds) rate.num rate.den → IsCriticalCycleOf (bound net ds) table cycle → cycle.rounds * rate.den ≡ rate.num * cycle.time → IsLive (bound net ds)
looped-live net laws ds rate table cycle is critical same = running-live net laws ds rate.num rate.den is runs
  where
    runs : 1 ≤ rate.num
    runs = ⊎_elim
        (λ (none : rate.num < 1). absurd (
        let zero_here : rate.num ≡ 0 = omega arith in
        let nothing : rate.num * cycle.time ≡ 0 * cycle.time = ap (λ (x : ℕ). x * cycle.time) zero_here in
        let some : 1 * rate.den ≤ cycle.rounds * rate.den = mul-le-mul_right rate.den critical.holds.some_round in
        omega (arith, nothing, some, same, is.positive)))
        (λ (some : 1 ≤ rate.num). some)
        (cases_lt rate.num 1)
