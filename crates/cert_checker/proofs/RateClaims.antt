-- What a valid certificate of a rate shows.
use Rattle.std.proofs.Common.{◌≡◌, ℕ, zero, suc, ◌*◌, ◌≤◌, ◌<◌, ◌↔◌, length, eq-eqb, subst, arith, pos_of_ne-zero}
use Rattle.std.specs.Int.{IsGcd, ◌∣◌}
use Rattle.std.proofs.lemmas.Nat.Gcd.{le_from_IsGcd, same_from_IsGcd}
use Rattle.std.proofs.lemmas.Bool.{eqb-true}
use Rattle.std.specs.Prelude.{IsTrue, nat_eq}
use Rattle.std.proofs.Math.Nat.{dvd-mul_right}
use Rattle.sd_base.specs.Net.{Net}
use Rattle.sd_base.specs.Lawful.{Lawful}
use Rattle.sd_base.specs.Rates.{Rate}
use Rattle.periodic.specs.ScheduleLines.{LineHolds}
use Rattle.periodic.proofs.RightLinesDecide.{lines_decide}
use Rattle.cert_text.specs.declared.certificates.RateCertificate.{RateCertificate}
use Rattle.cert_checker.specs.LinkCycles.{IsCycleLine}
use Rattle.cert_checker.specs.Schedules.{IsRateLine, IsScheduleLine}
use Rattle.cert_checker.specs.RateCertificates.{IsJoined, RateIsShown}

-- a fraction in lowest terms stays as it is
pub lowest-stays : (n d x y : ℕ) → 1 ≤ d → IsGcd n d 1 → (g : ℕ) × (n ≡ g * x) × (d ≡ g * y) → (x ≡ n) × (y ≡ d)
lowest-stays n d x y some lowest (g, num, den) =
    let left : g ∣ n = rw num (dvd-mul_right g x) in
    let right : g ∣ d = rw den (dvd-mul_right g y) in
    let small : g ≤ 1 = le_from_IsGcd n d 1 g lowest (omega arith) left right in
    one g (omega arith) num den
  where
    one : (g : ℕ) → g ≤ 1 → n ≡ g * x → d ≡ g * y → (x ≡ n) × (y ≡ d)
    one zero small a b = absurd (let none : d ≡ 0 = omega arith in omega arith)
    one (suc zero) small a b = (omega arith, omega arith)
    one (suc (suc g)) small a b = absurd (omega arith)

-- what is left to test of parts above 0
pub rate-line : (rate : ℕ × ℕ) (g : ℕ) → (rate.0 ≡ 0 → ⊥) → (rate.1 ≡ 0 → ⊥) → IsGcd rate.0 rate.1 g → IsTrue (nat_eq g 1) ↔ IsRateLine rate
rate-line rate g some positive is = (
  (λ yes. record { some = pos_of_ne-zero some; positive = pos_of_ne-zero positive; lowest = subst (λ (x : ℕ). IsGcd rate.0 rate.1 x) (eqb-true g 1 yes) is }),
  (λ line. eq-eqb g 1 (same_from_IsGcd rate.0 rate.1 g 1 is line.lowest)),
)

pub shown : RateIsShown → (net : Net) → Lawful net → (c : RateCertificate) → IsJoined net → IsRateLine c.rate → IsScheduleLine net c.rate c.schedule
    → ((a : ℕ) → a < length net.times → LineHolds net c.schedule.period c.schedule.rounds c.schedule.starts a) → IsCycleLine net c.rate c.cycle → Rate net c.rate.0 c.rate.1
shown law net laws c joined rate schedule lines cycle =
    law net c.schedule.period c.schedule.rounds c.schedule.starts cycle.cycle c.rate.0 c.rate.1 laws joined.inputs joined.strong
    ((lines_decide net c.schedule.period c.schedule.rounds c.schedule.starts laws schedule.passes schedule.turns schedule.actors).0 lines)
    cycle.is.holds rate.positive rate.lowest schedule.ratio cycle.is.ratio

-- the fraction that is told
pub claimed : (net : Net) (p q x y : ℕ) → (x ≡ p) × (y ≡ q) → Rate net p q → Rate net x y
claimed net p q x y (num, den) rate = rw (num, den) rate
