-- A firing that starts late enough in an earliest schedule has as many needs behind it, each ending just when the next firing starts.
use Rattle.std.proofs.Common.{◌≡◌, ℕ, zero, suc, ◌+◌, ◌-◌, ◌*◌, ◌/◌, ◌%◌, ◌≤◌, ◌<◌, ⊎_elim, length, subst, sym, refl, ap, ◌∙◌, arith, mul-le-mul_right, mod-lt, div-add-mod'}
use Rattle.std.proofs.lemmas.Bool.{cases_lt}
use Rattle.std.specs.Prelude.{slice_index}
use Rattle.critical.specs.declared.cycle.FiringNo.{FiringNo}
use Rattle.sd_base.specs.Net.{Net, channel_at}
use Rattle.sd_base.specs.Schedules.{time_of, Schedule, count_of, start_of, HasInputs}
use Rattle.sd_base.specs.SelfTimed.{earliest}
use Rattle.sd_base.specs.Lawful.{Lawful}
use Rattle.sd_base.specs.Futures.{Repeats}
use Rattle.sd_base.proofs.LawfulIsRegular.{regular}
use Rattle.sd_base.proofs.EndsDecideCounts.{early_at}
use Rattle.sd_base.proofs.StartsMeetEnds.{tight, earliest-within}
use Rattle.sd_base.proofs.FiringsKeepOrder.{starts-le}
use Rattle.critical.specs.Cycles.{IsStep, IsChain, last_of, time_along}
use Rattle.critical.specs.inside.Trails.{steps_of}

abbrev pub start_at : Schedule → FiringNo → ℕ
start_at s x = start_of s x.actor x.number

-- n needs back from x: the firings on the way, the channels between them, and when they start
pub record Trail (net : Net) (s : Schedule) (low n : ℕ) (x : FiringNo) : Type 0 where
  pub at : ℕ → FiringNo
  pub channel : ℕ → ℕ
  pub first : at 0 ≡ x
  pub there : (m : ℕ) → m ≤ n → (at m).number < count_of s (at m).actor
  pub late : (m : ℕ) → m ≤ n → low < start_at s (at m)
  pub steps : (m : ℕ) → m < n → IsStep net (at (suc m)) (record { channel = channel m; to = at m })
  pub just : (m : ℕ) → m < n → start_at s (at (suc m)) + time_of net (at (suc m)).actor (at (suc m)).number ≡ start_at s (at m)

abbrev put_firing : FiringNo → (ℕ → FiringNo) → ℕ → FiringNo
put_firing x f zero = x
put_firing x f (suc m) = f m

abbrev put_channel : ℕ → (ℕ → ℕ) → ℕ → ℕ
put_channel i f zero = i
put_channel i f (suc m) = f m

extend : (net : Net) (s : Schedule) (low n i : ℕ) (x y : FiringNo) → Trail net s low n y → x.number < count_of s x.actor → low < start_at s x → IsStep net y (record { channel = i; to = x }) →
    start_at s y + time_of net y.actor y.number ≡ start_at s x → Trail net s low (suc n) x
extend net s low n i x y rest here soon leads ends = record { at = put_firing x rest.at; channel = put_channel i rest.channel; first = refl; there = there; late = late; steps = steps; just = just }
  where
    there : (m : ℕ) → m ≤ suc n → (put_firing x rest.at m).number < count_of s (put_firing x rest.at m).actor
    there zero le = here
    there (suc m) le = rest.there m (omega arith)

    late : (m : ℕ) → m ≤ suc n → low < start_at s (put_firing x rest.at m)
    late zero le = soon
    late (suc m) le = rest.late m (omega arith)

    steps : (m : ℕ) → m < suc n → IsStep net (put_firing x rest.at (suc m)) (record { channel = put_channel i rest.channel m; to = put_firing x rest.at m })
    steps zero below = subst (λ (z : FiringNo). IsStep net z (record { channel = i; to = x })) (sym rest.first) leads
    steps (suc m) below = rest.steps m (omega arith)

    just : (m : ℕ) → m < suc n → start_at s (put_firing x rest.at (suc m)) + time_of net (put_firing x rest.at (suc m)).actor (put_firing x rest.at (suc m)).number ≡ start_at s (put_firing x rest.at m)
    just zero below = subst (λ (z : FiringNo). start_at s z + time_of net z.actor z.number ≡ start_at s x) (sym rest.first) ends
    just (suc m) below = rest.just m (omega arith)

module _ (net : Net) (laws : Lawful net) (fed : HasInputs net) (u : ℕ) where
  -- a firing that starts late enough has as many needs behind it
  pub trail : (low n : ℕ) (x : FiringNo) → x.number < count_of (earliest net u) x.actor → low + n * 1000000000 < start_at (earliest net u) x → Trail net (earliest net u) low n x
  trail low zero x there late = record { at = λ m. x; channel = λ m. 0; first = refl; there = λ m le. there; late = λ m le. omega arith; steps = λ m below. absurd (omega arith); just = λ m below. absurd (omega arith) }
  trail low (suc n) x there late =
      let found = tight net (regular net laws) fed u x.actor x.number there (omega arith) in
      let i : ℕ = found.0 in
      let m : ℕ = found.1 in
      let need = found.2 in
      let source : ℕ = (channel_at net i).source in
      let actor : source < length net.times = laws.sources i need.place in
      let short : time_of net source m ≤ 1000000000 = laws.short_times source _ actor (mod-lt m (laws.some_phase source actor)) in
      let just : start_of (earliest net u) source m + time_of net source m ≡ start_at (earliest net u) x = need.just in
      extend net (earliest net u) low n i x (record { actor = source; number = m }) (trail low n (record { actor = source; number = m }) need.there (omega arith)) there (omega arith)
      (record { place = need.place; source = refl; target = need.into; last = need.last }) just

-- steps forward between firings each of which needs the one after it make a chain
module _ (net : Net) (at : ℕ → FiringNo) (channel : ℕ → ℕ) (p n : ℕ) (steps : (m : ℕ) → p ≤ m → m < n → IsStep net (at (suc m)) (record { channel = channel m; to = at m })) where
  pub chain-of : (d : ℕ) → p + d ≤ n → IsChain net (at (p + d)) (steps_of at channel p d)
  chain-of zero within = tt
  chain-of (suc d) within =
      let e : suc (p + d) ≡ p + suc d = omega arith in
      (subst (λ (k : ℕ). IsStep net (at k) (record { channel = channel (p + d); to = at (p + d) })) e (steps (p + d) (omega arith) (omega arith)), chain-of d (omega arith))

pub last-of_steps : (at : ℕ → FiringNo) (channel : ℕ → ℕ) (p d : ℕ) → last_of (at (p + d)) (steps_of at channel p d) ≡ at p
last-of_steps at channel p zero = let e : p + 0 ≡ p = omega arith in ap at e
last-of_steps at channel p (suc d) = last-of_steps at channel p d

module _ (net : Net) (s : Schedule) (low n : ℕ) (x : FiringNo) (way : Trail net s low n x) (p : ℕ) where
  pub trail-chain : (d : ℕ) → p + d ≤ n → IsChain net (way.at (p + d)) (steps_of way.at way.channel p d)
  trail-chain = chain-of net way.at way.channel p n (λ m from below. way.steps m below)

  pub trail-last : (d : ℕ) → last_of (way.at (p + d)) (steps_of way.at way.channel p d) ≡ way.at p
  trail-last d = last-of_steps way.at way.channel p d

  pub trail-time : (d : ℕ) → p + d ≤ n → start_at s (way.at (p + d)) + time_along net (way.at (p + d)) (steps_of way.at way.channel p d) ≡ start_at s (way.at p)
  trail-time zero within = let e : p + 0 ≡ p = omega arith in rw e (omega arith)
  trail-time (suc d) within =
      let e : suc (p + d) ≡ p + suc d = omega arith in
      let just : start_at s (way.at (p + suc d)) + time_of net (way.at (p + suc d)).actor (way.at (p + suc d)).number ≡ start_at s (way.at (p + d)) =
      subst (λ (k : ℕ). start_at s (way.at k) + time_of net (way.at k).actor (way.at k).number ≡ start_at s (way.at (p + d))) e (way.just (p + d) (omega arith)) in
      omega (arith, trail-time d (omega arith))

-- starts after the entry repeat with the period
module _ (net : Net) (laws : Lawful net) (fed : HasInputs net) (entry period rounds : ℕ) (again : Repeats net entry (entry + period) (λ a. rounds * slice_index net.round a)) (u a : ℕ) (long : entry < u) where
  next-pass : (k : ℕ) → k + rounds * slice_index net.round a < count_of (earliest net u) a → entry < start_of (earliest net u) a k →
      start_of (earliest net u) a (k + rounds * slice_index net.round a) ≡ start_of (earliest net u) a k + period
  next-pass k there late =
      let here : entry + (u - (entry + 1)) + 1 ≡ u = omega arith in
      let far : entry + period + (u - (entry + 1)) + 1 ≡ u + period = omega arith in
      let starts : start_of (earliest net (u + period)) a (k + rounds * slice_index net.round a) + entry ≡ start_of (earliest net u) a k + (entry + period) =
      rw far at (rw here at (again.starts (u - (entry + 1)) a k (rw here (omega arith)) (rw here (omega arith)))) in
      let same : start_of (earliest net (u + period)) a (k + rounds * slice_index net.round a) ≡ start_of (earliest net u) a (k + rounds * slice_index net.round a) =
      (earliest-within net u (u + period) (earliest net u) (earliest net (u + period)) (early_at net (regular net laws) fed u) (early_at net (regular net laws) fed (u + period)) (omega arith) a (k + rounds * slice_index net.round a) there).1 in
      omega arith

  passes-on : (n k : ℕ) → k + n * (rounds * slice_index net.round a) < count_of (earliest net u) a → entry < start_of (earliest net u) a k →
      start_of (earliest net u) a (k + n * (rounds * slice_index net.round a)) ≡ start_of (earliest net u) a k + n * period
  passes-on zero k there late = let e : k + 0 * (rounds * slice_index net.round a) ≡ k = omega arith in rw e (omega arith)
  passes-on (suc n) k there late =
      let e : k + suc n * (rounds * slice_index net.round a) ≡ k + n * (rounds * slice_index net.round a) + rounds * slice_index net.round a = omega arith in
      let before : start_of (earliest net u) a (k + n * (rounds * slice_index net.round a)) ≡ start_of (earliest net u) a k + n * period = passes-on n k (omega arith) late in
      let next : start_of (earliest net u) a (k + n * (rounds * slice_index net.round a) + rounds * slice_index net.round a) ≡ start_of (earliest net u) a (k + n * (rounds * slice_index net.round a)) + period =
      next-pass (k + n * (rounds * slice_index net.round a)) (rw e at there) (omega arith) in
      rw e (omega arith)

  -- two firings of an actor at one place of a pass are as many passes apart in time as in number
  pub closes : (y z time : ℕ) → z < count_of (earliest net u) a → y < count_of (earliest net u) a → entry < start_of (earliest net u) a y → start_of (earliest net u) a y + time ≡ start_of (earliest net u) a z →
      1 ≤ time → y % (rounds * slice_index net.round a) ≡ z % (rounds * slice_index net.round a) →
      (n : ℕ) × (1 ≤ n) × (z ≡ y + n * (rounds * slice_index net.round a)) × (time ≡ n * period)
  closes y z time there also late takes some same =
      let more : y < z = ⊎_elim (λ (h : y < z). h) (λ (h : z ≤ y). absurd (let rise : start_of (earliest net u) a z ≤ start_of (earliest net u) a y = starts-le net (earliest net u) (early_at net (regular net laws) fed u).admissible a z y h also in omega arith)) (cases_lt y z) in
      let one : y / (rounds * slice_index net.round a) * (rounds * slice_index net.round a) + y % (rounds * slice_index net.round a) ≡ y = div-add-mod' y (rounds * slice_index net.round a) in
      let two : z / (rounds * slice_index net.round a) * (rounds * slice_index net.round a) + z % (rounds * slice_index net.round a) ≡ z = div-add-mod' z (rounds * slice_index net.round a) in
      let turns : y / (rounds * slice_index net.round a) ≤ z / (rounds * slice_index net.round a) = ⊎_elim
      (λ (less : z / (rounds * slice_index net.round a) < y / (rounds * slice_index net.round a)). absurd (
      let scaled : z / (rounds * slice_index net.round a) * (rounds * slice_index net.round a) ≤ y / (rounds * slice_index net.round a) * (rounds * slice_index net.round a) = mul-le-mul_right (rounds * slice_index net.round a) (omega arith) in omega arith))
      (λ (h : y / (rounds * slice_index net.round a) ≤ z / (rounds * slice_index net.round a)). h)
      (cases_lt (z / (rounds * slice_index net.round a)) (y / (rounds * slice_index net.round a))) in
      let n : ℕ = z / (rounds * slice_index net.round a) - y / (rounds * slice_index net.round a) in
      at n (let sum : n + y / (rounds * slice_index net.round a) ≡ z / (rounds * slice_index net.round a) = omega arith in
      let scaled : (n + y / (rounds * slice_index net.round a)) * (rounds * slice_index net.round a) ≡ z / (rounds * slice_index net.round a) * (rounds * slice_index net.round a) = ap (λ (k : ℕ). k * (rounds * slice_index net.round a)) sum in
      omega arith)
    where
      at : (n : ℕ) → z ≡ y + n * (rounds * slice_index net.round a) → (m : ℕ) × (1 ≤ m) × (z ≡ y + m * (rounds * slice_index net.round a)) × (time ≡ m * period)
      at n e =
          let on : start_of (earliest net u) a (y + n * (rounds * slice_index net.round a)) ≡ start_of (earliest net u) a y + n * period = passes-on n y (rw e at there) late in
          let there_on : start_of (earliest net u) a z ≡ start_of (earliest net u) a y + n * period = ap (start_of (earliest net u) a) e ∙ on in
          let spans : time ≡ n * period = omega arith in
          let positive : 1 ≤ n = ⊎_elim (λ (none : n < 1). absurd (let nothing : n * period ≡ 0 * period = ap (λ (k : ℕ). k * period) (omega arith) in omega arith)) (λ (h : 1 ≤ n). h) (cases_lt n 1) in
          (n, positive, e, spans)
