-- Each firing that starts after moment 0 starts just when its last need on some channel ends.
use Rattle.std.proofs.Common.{◌≡◌, ℕ, zero, suc, ◌+◌, ◌-◌, ◌≤◌, ◌<◌, ◌⊎◌, length, inl, inr, ⊎_elim, subst, arith}
use Rattle.std.proofs.lemmas.Bool.{cases_lt}
use Rattle.sd_base.specs.Net.{Channel, Net, channel_at, total}
use Rattle.sd_base.specs.Schedules.{time_of, Needs, LastNeed, Lacks, Schedule, count_of, start_of, end_of, Earliest, HasInputs}
use Rattle.sd_base.specs.SelfTimed.{earliest}
use Rattle.sd_base.proofs.SumsRepeatByTurns.{needs-later}
use Rattle.sd_base.proofs.LawfulIsRegular.{Regular}
use Rattle.sd_base.proofs.FiringsKeepOrder.{is_actor, ends-le}
use Rattle.sd_base.proofs.EndsDecideCounts.{early_at, ended_at, ended-at-is, full-at}

-- two earliest schedules agree on the firings of the shorter one
pub earliest-within : (net : Net) (t u : ℕ) (s r : Schedule) → Earliest net t s → Earliest net u r → t ≤ u → (a k : ℕ) → k < count_of s a →
    (k < count_of r a) × (start_of r a k ≡ start_of s a k)
earliest-within net t u s r short long h a k there =
    let soon : start_of s a k < t = short.before a k there in
    let in_long = long.least s short.admissible a k there (omega arith) in
    let longer : k < count_of r a = in_long.0 in
    let no_later : start_of r a k ≤ start_of s a k = in_long.1 in
    let in_short = short.least r long.admissible a k longer (omega arith) in
    let no_sooner : start_of s a k ≤ start_of r a k = in_short.1 in
    (longer, omega arith)

-- the last need on a channel, from any need on
pub last_need : (c : Channel) (j : ℕ) (fuel m : ℕ) → Needs c j m → (Needs c j (m + fuel) → ⊥) → (n : ℕ) × (m ≤ n) × LastNeed c j n
last_need c j zero m need never = absurd (never (let e : m + 0 ≡ m = omega arith in rw e need))
last_need c j (suc fuel) m need never = last_need-step c j m need (λ next. last_need c j fuel (m + 1) next (λ far. never (let e : m + suc fuel ≡ (m + 1) + fuel = omega arith in rw e far))) (cases_lt (c.tokens + total c.made (m + 1)) (total c.taken (j + 1)))
  where
    last_need-step : (c : Channel) (j m : ℕ) → Needs c j m → (Needs c j (m + 1) → (n : ℕ) × (m + 1 ≤ n) × LastNeed c j n) →
        (Needs c j (m + 1)) ⊎ (total c.taken (j + 1) ≤ c.tokens + total c.made (m + 1)) → (n : ℕ) × (m ≤ n) × LastNeed c j n
    last_need-step c j m need next (inl more) = let found = next more in (found.0, omega (arith, found.1), found.2)
    last_need-step c j m need next (inr enough) = (m, omega arith, record { needed = need; enough = enough })

-- firing m of the source of channel i is the last need of firing k of a in s, and ends just when that one starts
pub record TightNeed (net : Net) (s : Schedule) (a k i m : ℕ) : Type 0 where
  pub place : i < length net.channels
  pub into : (channel_at net i).target ≡ a
  pub last : LastNeed (channel_at net i) k m
  pub there : m < count_of s (channel_at net i).source
  pub just : end_of net s (channel_at net i).source m ≡ start_of s a k

module _ (net : Net) (reg : Regular net) (inputs : HasInputs net) where
  -- a need that ends just when a firing starts
  tight-some : (t a k : ℕ) → k < count_of (earliest net (suc (suc t))) a → start_of (earliest net (suc (suc t))) a k ≡ suc t →
      (i : ℕ) × (i < length net.channels) × ((channel_at net i).target ≡ a) × (m : ℕ) × Needs (channel_at net i) k m × (m < count_of (earliest net (suc (suc t))) (channel_at net i).source)
      × (end_of net (earliest net (suc (suc t))) (channel_at net i).source m ≡ suc t)
  tight-some t a k there at =
      let long = early_at net reg inputs (suc (suc t)) in
      let short = early_at net reg inputs (suc t) in
      let actor : a < length net.times = is_actor net (earliest net (suc (suc t))) a k long.admissible there in
      let new : count_of (earliest net (suc t)) a ≤ k = ⊎_elim
      (λ (old : k < count_of (earliest net (suc t)) a). absurd (
      let soon : start_of (earliest net (suc t)) a k < suc t = short.before a k old in
      let same : start_of (earliest net (suc (suc t))) a k ≡ start_of (earliest net (suc t)) a k = (earliest-within net (suc t) (suc (suc t)) (earliest net (suc t)) (earliest net (suc (suc t))) short long (omega arith) a k old).1 in
      omega arith))
      (λ (h : count_of (earliest net (suc t)) a ≤ k). h) (cases_lt k (count_of (earliest net (suc t)) a)) in
      let lack : Lacks net (ended_at net t) a (count_of (earliest net (suc t)) a) = full-at net reg inputs t a actor in
      let source : ℕ = (channel_at net lack.0).source in
      let m : ℕ = ended_at net t source in
      let need : Needs (channel_at net lack.0) k m = needs-later (channel_at net lack.0) (count_of (earliest net (suc t)) a) k m new lack.3 in
      let fed = long.admissible.fed lack.0 k m lack.1 (rw lack.2 there) need in
      let started : m < count_of (earliest net (suc (suc t))) source = fed.0 in
      let ends : end_of net (earliest net (suc (suc t))) source m ≤ start_of (earliest net (suc (suc t))) (channel_at net lack.0).target k = fed.1 in
      let by_now : end_of net (earliest net (suc (suc t))) source m ≤ suc t = rw at at (subst (λ (b : ℕ). end_of net (earliest net (suc (suc t))) source m ≤ start_of (earliest net (suc (suc t))) b k) lack.2 ends) in
      let takes : 1 ≤ time_of net source m = reg.timed.some source m (reg.wired.sources lack.0 lack.1) in
      let going : t < end_of net (earliest net (suc (suc t))) source m = ⊎_elim
      (λ (old : m < count_of (earliest net (suc t)) source).
      let same : start_of (earliest net (suc (suc t))) source m ≡ start_of (earliest net (suc t)) source m = (earliest-within net (suc t) (suc (suc t)) (earliest net (suc t)) (earliest net (suc (suc t))) short long (omega arith) source m old).1 in
      let runs : t < end_of net (earliest net (suc t)) source m = (ended-at-is net reg inputs t source).going m (omega arith) old in
      omega arith)
      (λ (late : count_of (earliest net (suc t)) source ≤ m).
      let from : t < start_of (earliest net (suc (suc t))) source m = ⊎_elim (λ (h : t < start_of (earliest net (suc (suc t))) source m). h)
      (λ (soon : start_of (earliest net (suc (suc t))) source m ≤ t). absurd (
      let back = (short.least (earliest net (suc (suc t))) long.admissible source m started (omega arith)).0 in omega arith))
      (cases_lt t (start_of (earliest net (suc (suc t))) source m)) in
      omega arith)
      (cases_lt m (count_of (earliest net (suc t)) source)) in
      (lack.0, lack.1, lack.2, m, need, started, omega arith)

  tight-here : (t a k : ℕ) → k < count_of (earliest net (suc (suc t))) a → start_of (earliest net (suc (suc t))) a k ≡ suc t →
      (i : ℕ) × (m : ℕ) × TightNeed net (earliest net (suc (suc t))) a k i m
  tight-here t a k there at =
      let long = early_at net reg inputs (suc (suc t)) in
      let found = tight-some t a k there at in
      let i : ℕ = found.0 in
      let source : ℕ = (channel_at net found.0).source in
      let m : ℕ = found.3 in
      let count : ℕ = count_of (earliest net (suc (suc t))) source in
      let at_target : k < count_of (earliest net (suc (suc t))) (channel_at net found.0).target = rw found.2 there in
      let never : Needs (channel_at net found.0) k (m + (count - m)) → ⊥ = λ far.
      let same : m + (count - m) ≡ count = omega (arith, found.5) in
      let past : count < count = (long.admissible.fed found.0 k count found.1 at_target (rw same at far)).0 in omega arith in
      let last = last_need (channel_at net found.0) k (count - m) m found.4 never in
      let n : ℕ = last.0 in
      let fed = long.admissible.fed found.0 k n found.1 at_target last.2.needed in
      let started : n < count_of (earliest net (suc (suc t))) source = fed.0 in
      let by_then : end_of net (earliest net (suc (suc t))) source n ≤ start_of (earliest net (suc (suc t))) a k = subst (λ (b : ℕ). end_of net (earliest net (suc (suc t))) source n ≤ start_of (earliest net (suc (suc t))) b k) found.2 fed.1 in
      let rise : end_of net (earliest net (suc (suc t))) source m ≤ end_of net (earliest net (suc (suc t))) source n = ends-le net (earliest net (suc (suc t))) reg.own long.admissible source m n last.1 started in
      let just : end_of net (earliest net (suc (suc t))) source m ≡ suc t = found.6 in
      (i, n, record { place = found.1; into = found.2; last = last.2; there = started; just = omega arith })

  -- the same in any earliest schedule that has the firing
  pub tight : (u a k : ℕ) → k < count_of (earliest net u) a → 0 < start_of (earliest net u) a k → (i : ℕ) × (m : ℕ) × TightNeed net (earliest net u) a k i m
  tight u a k there later =
      let big = early_at net reg inputs u in
      let t : ℕ = start_of (earliest net u) a k - 1 in
      let moment : start_of (earliest net u) a k ≡ suc t = omega arith in
      let before : start_of (earliest net u) a k < u = big.before a k there in
      let small = early_at net reg inputs (suc (suc t)) in
      let mine : k < count_of (earliest net (suc (suc t))) a = (small.least (earliest net u) big.admissible a k there (omega arith)).0 in
      let same : start_of (earliest net u) a k ≡ start_of (earliest net (suc (suc t))) a k = (earliest-within net (suc (suc t)) u (earliest net (suc (suc t))) (earliest net u) small big (omega arith) a k mine).1 in
      let found = tight-here t a k mine (omega arith) in
      let i : ℕ = found.0 in
      let m : ℕ = found.1 in
      let need : TightNeed net (earliest net (suc (suc t))) a k i m = found.2 in
      let up = earliest-within net (suc (suc t)) u (earliest net (suc (suc t))) (earliest net u) small big (omega arith) (channel_at net i).source m need.there in
      let started : m < count_of (earliest net u) (channel_at net i).source = up.0 in
      let kept : start_of (earliest net u) (channel_at net i).source m ≡ start_of (earliest net (suc (suc t))) (channel_at net i).source m = up.1 in
      let just : end_of net (earliest net (suc (suc t))) (channel_at net i).source m ≡ start_of (earliest net (suc (suc t))) a k = need.just in
      (i, m, record { place = need.place; into = need.into; last = need.last; there = started; just = omega arith })
