-- What a net with more room keeps of one with less: schedules, rates, orders of firings; and what blocks it blocks the other.
use Rattle.std.proofs.Common.{◌≡◌, ℕ, ◌+◌, ◌*◌, ◌≤◌, ◌<◌, List, [], ◌∷◌, length, ⊎_elim, subst, sym, ap, ◌∙◌, arith, mul-le-mul_left}
use Rattle.std.proofs.Math.Nat.{le_of_mul-le-mul_right}
use Rattle.std.specs.Prelude.{slice_index, slice_index_or, count_by, nat_lt}
use Rattle.std.proofs.lemmas.Bool.{cases_lt}
use Rattle.sd_base.specs.Net.{Net, channel_at, phase_entry, total}
use Rattle.sd_base.specs.Schedules.{Schedule, Needs, Admissible, Earliest, count_of, start_of, end_of, time_of}
use Rattle.sd_base.specs.Rates.{RateBy, Rate}
use Rattle.sd_base.specs.Untimed.{CanFire, Fires, one_more, none_fired, IsLive}
use Rattle.sd_base.proofs.LoopRates.{count-all, slopes}
use Rattle.storage.specs.inside.Easing.{EasesChannel, Eases}

pub eases-admissible : (net easier : Net) → Eases net easier → (s : Schedule) → Admissible net s → Admissible easier s
eases-admissible net easier eases s good = record { actors = good.actors ∙ ap length eases.times; rising = good.rising; fed = fed }
  where
    fed : (i j m : ℕ) → i < length easier.channels → j < count_of s (channel_at easier i).target → Needs (channel_at easier i) j m → (m < count_of s (channel_at easier i).source) × (end_of easier s (channel_at easier i).source m ≤ start_of s (channel_at easier i).target j)
    fed i j m place there need = let one : EasesChannel (channel_at net i) (channel_at easier i) = eases.channels i place in let here : j < count_of s (channel_at net i).target = subst (λ (b : ℕ). j < count_of s b) (sym one.target) there in let given = good.fed i j m (omega (arith, eases.many)) here (one.needs j m need) in let started : m < count_of s (channel_at easier i).source = subst (λ (a : ℕ). m < count_of s a) one.source given.0 in let from : end_of net s (channel_at easier i).source m ≤ start_of s (channel_at net i).target j = subst (λ (a : ℕ). end_of net s a m ≤ start_of s (channel_at net i).target j) one.source given.1 in
        let ended : end_of net s (channel_at easier i).source m ≤ start_of s (channel_at easier i).target j = subst (λ (b : ℕ). end_of net s (channel_at easier i).source m ≤ start_of s b j) one.target from in let time : time_of net (channel_at easier i).source m ≡ time_of easier (channel_at easier i).source m = ap (λ (ts : List (List ℕ)). phase_entry (slice_index_or ts (channel_at easier i).source []) m) eases.times in (started, omega arith)

pub eases-earliest : (net easier : Net) → Eases net easier → Eases easier net → (t : ℕ) (s : Schedule) → Earliest net t s → Earliest easier t s
eases-earliest net easier eases back t s early = record {
  admissible = eases-admissible net easier eases s early.admissible;
  before = early.before;
  least = λ other good. early.least other (eases-admissible easier net back other good);
}

pub eases-rate : (net easier : Net) → Eases net easier → Eases easier net → (p q : ℕ) → Rate net p q → Rate easier p q
eases-rate net easier eases back p q rate = record { positive = rate.positive; lowest = rate.lowest; slack = rate.slack; bounds = bounds }
  where
    actor : (a : ℕ) → a < length easier.times → a < length net.times
    actor a below = rw eases.times below

    bounds : RateBy easier p q rate.slack
    bounds = record {
      above = λ s t a good there. subst (λ (r : List ℕ). q * count_by (λ x. nat_lt x t) (slice_index_or s a []) ≤ p * slice_index r a * t + rate.slack) eases.round (rate.bounds.above s t a (eases-admissible easier net back s good) (actor a there));
      below = λ t. let found = rate.bounds.below t in (found.0, eases-earliest net easier eases back t found.0 found.1, λ a there. subst (λ (r : List ℕ). p * slice_index r a * t ≤ q * count_of found.0 a + rate.slack) eases.round (found.2 a (actor a there)));
    }

pub eases-rates : (net easier : Net) → Eases net easier → 1 ≤ length net.times → 1 ≤ slice_index net.round 0 → (p q x y : ℕ) → Rate net p q → Rate easier x y → p * y ≤ x * q
eases-rates net easier eases some fires p q x y one other = let scaled : p * y * slice_index net.round 0 ≤ x * q * slice_index net.round 0 = slopes (p * y * slice_index net.round 0) (x * q * slice_index net.round 0) (q * other.slack + y * one.slack) lines in le_of_mul-le-mul_right scaled fires
  where
    lines : (t : ℕ) → p * y * slice_index net.round 0 * t ≤ x * q * slice_index net.round 0 * t + (q * other.slack + y * one.slack)
    lines t = let found = one.bounds.below t in let n : ℕ = count_of found.0 0 in let all : n ≤ count_by (λ z. nat_lt z t) (slice_index_or found.0 0 []) = count-all t (slice_index_or found.0 0 []) (λ k there. found.1.before 0 k there) in let low : p * slice_index net.round 0 * t ≤ q * n + one.slack = found.2 0 some in let there : 0 < length easier.times = rw (← eases.times) some in let good : Admissible easier found.0 = eases-admissible net easier eases found.0 found.1.admissible in let high : y * count_by (λ z. nat_lt z t) (slice_index_or found.0 0 []) ≤ x * slice_index net.round 0 * t + other.slack = subst (λ (r : List ℕ). y * count_by (λ z. nat_lt z t) (slice_index_or found.0 0 []) ≤ x * slice_index r 0 * t + other.slack) (sym eases.round) (other.bounds.above found.0 t 0 good there) in
        let mine : y * n ≤ y * count_by (λ z. nat_lt z t) (slice_index_or found.0 0 []) = mul-le-mul_left y all in let up : y * (p * slice_index net.round 0 * t) ≤ y * (q * n + one.slack) = mul-le-mul_left y low in let down : q * (y * n) ≤ q * (x * slice_index net.round 0 * t + other.slack) = mul-le-mul_left q (omega arith) in omega arith

pub eases-fires : (net easier : Net) → Eases net easier → (order : List ℕ) (v : ℕ → ℕ) → Fires net v order → Fires easier v order
eases-fires net easier eases [] v fires = tt
eases-fires net easier eases (a ∷ order) v fires = (
  rw (← eases.times) fires.0,
  subst (λ (r : List ℕ). v a < slice_index r a) eases.round fires.1,
  can,
  eases-fires net easier eases order (one_more v a) fires.3,
)
  where
    can : CanFire easier v a
    can i place into = ⊎_elim (λ (lack : (channel_at easier i).tokens + total (channel_at easier i).made (v (channel_at easier i).source) < total (channel_at easier i).taken (v a + 1)). let one : EasesChannel (channel_at net i) (channel_at easier i) = eases.channels i place in let need : Needs (channel_at net i) (v a) (v (channel_at easier i).source) = one.needs (v a) (v (channel_at easier i).source) lack in let same : Needs (channel_at net i) (v a) (v (channel_at net i).source) = subst (λ (b : ℕ). Needs (channel_at net i) (v a) (v b)) (sym one.source) need in let feeds = fires.2 i (omega (arith, eases.many)) (one.target ∙ into) in absurd (omega arith)) (λ (enough : total (channel_at easier i).taken (v a + 1) ≤ (channel_at easier i).tokens + total (channel_at easier i).made (v (channel_at easier i).source)). enough)
        (cases_lt ((channel_at easier i).tokens + total (channel_at easier i).made (v (channel_at easier i).source)) (total (channel_at easier i).taken (v a + 1)))

pub eases-live : (net easier : Net) → Eases net easier → IsLive net → IsLive easier
eases-live net easier eases live = (
  live.0,
  record { fires = eases-fires net easier eases live.0 none_fired live.1.fires; whole = λ a actor. live.1.whole a (rw eases.times actor) ∙ ap (λ (r : List ℕ). slice_index r a) eases.round },
)
