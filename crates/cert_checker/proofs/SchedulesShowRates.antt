-- A schedule and a need cycle show the rate.
use Rattle.std.proofs.Common.{◌≡◌, ℕ, zero, suc, ◌+◌, ◌*◌, ◌/◌, ◌≤◌, [], sym, ap, ◌∙◌, arith}
use Rattle.std.specs.Prelude.{slice_index, slice_index_or, count_by, nat_lt}
use Rattle.std.specs.Int.{IsGcd, ◌∣◌}
use Rattle.std.proofs.Math.Nat.{eq_of_mul-eq-mul_right, mul-div_cancel'}
use Rattle.sd_base.proofs.LeastMultiplesDivide.{root_divides}
use Rattle.sd_base.specs.Schedules.{count_of}
use Rattle.sd_base.proofs.LoopRates.{factor-out}
use Rattle.periodic.specs.Periods.{RoundsBelow}
use Rattle.critical.specs.Bounds.{CyclesMeetTheUpperSide}
use Rattle.cert_checker.specs.RateCertificates.{RateIsShown}

-- a number of rounds and a time of this ratio are a multiple of it in lowest terms
pub record Multiple (n d p q : ℕ) : Type 0 where
  pub factor : ℕ
  pub above : n ≡ factor * p
  pub below : d ≡ factor * q

multiple : (n d p q : ℕ) → 1 ≤ q → IsGcd p q 1 → n * q ≡ p * d → Multiple n d p q
multiple n d p q some lowest same =
    let swap : p * d ≡ d * p = omega arith in
    let part : q ∣ d = root_divides p q d n lowest (same ∙ swap) in
    let is : q * (d / q) ≡ d = mul-div_cancel' q part in
    let turned : q * (d / q) ≡ (d / q) * q = omega arith in
    let all : p * d ≡ p * (q * (d / q)) = ap (λ (k : ℕ). p * k) (sym is) in
    let group : p * (q * (d / q)) ≡ ((d / q) * p) * q = omega arith in
    record { factor = d / q; above = eq_of_mul-eq-mul_right q some n ((d / q) * p) (same ∙ all ∙ group); below = sym is ∙ turned }

module _ (schedules : RoundsBelow) (cycles : CyclesMeetTheUpperSide) where
  pub rate_shown : RateIsShown
  rate_shown net period rounds starts cycle p q laws inputs strong holds on some lowest of_schedule of_cycle =
      let s = multiple rounds period p q some lowest of_schedule in
      let c = multiple cycle.rounds cycle.time p q some lowest of_cycle in
      let low = schedules net period rounds starts laws inputs holds in
      let up = cycles net cycle p q c.factor laws strong on c.above c.below in
      let turn : 1 ≤ s.factor = positive s.factor period q holds.passes s.below in
      record {
        positive = some;
        lowest = lowest;
        slack = low.0 + up.0;
        bounds = record {
          above = λ t n a ok known. (let h : q * count_by (λ x. nat_lt x n) (slice_index_or t a []) ≤ p * slice_index net.round a * n + up.0 = up.1 t n a ok known in omega arith);
          below = λ n. (let e = low.1 n in (
            e.0,
            e.1,
            λ a known.
                under s.factor p q rounds period (slice_index net.round a) n (count_of e.0 a) low.0 up.0 turn s.above s.below (e.2 a known),
          ));
        };
      }
    where
      positive : (g d q : ℕ) → 1 ≤ d → d ≡ g * q → 1 ≤ g
      positive zero d q some e = absurd (let no : ⊥ = omega arith in no)
      positive (suc g) d q some e = omega arith

      under : (g p q n d r t c b e : ℕ) → 1 ≤ g → n ≡ g * p → d ≡ g * q → n * r * t ≤ d * c + b → p * r * t ≤ q * c + (b + e)
      under g p q n d r t c b e some above below h =
          let a : n * r * t ≡ g * (p * r * t) = ap (λ (k : ℕ). k * r * t) above ∙ (let z : g * p * r * t ≡ g * (p * r * t) = omega arith in z) in
          let k : d * c ≡ g * (q * c) = ap (λ (k : ℕ). k * c) below ∙ (let z : g * q * c ≡ g * (q * c) = omega arith in z) in
          let f : g * (p * r * t) ≤ g * (q * c) + b = omega arith in
          let l : p * r * t ≤ q * c + b = factor-out g (p * r * t) (q * c) b some f in
          omega arith
