-- A net of which a round can be completed never comes to a stop.
use Rattle.std.proofs.Common.{◌≡◌, ℕ, zero, suc, ◌+◌, ◌-◌, ◌*◌, ◌/◌, ◌%◌, ◌≤◌, ◌<◌, length, min, ⊎_elim, refl, ap, arith, div-add-mod', mod-lt, mul-le-mul_right}
use Rattle.std.specs.Prelude.{slice_index}
use Rattle.std.proofs.lemmas.Bool.{cases_lt}
use Rattle.sd_base.specs.Net.{Net, channel_at}
use Rattle.sd_base.specs.Schedules.{Needs, Lacks}
use Rattle.sd_base.specs.Untimed.{IsLive, Blocks}
use Rattle.sd_base.proofs.SumsRepeatByTurns.{fewer-needed}
use Rattle.sd_base.proofs.LawfulIsRegular.{Wired, Balanced}
use Rattle.sd_base.proofs.RoundsKeepTokens.{whole-rounds, needs-unshift}
use Rattle.sd_base.proofs.ClosedCountsBoundRuns.{live-unblocked}

-- where a function is least among the first n + 1 numbers
least_at : (f : ℕ → ℕ) (n : ℕ) → (b : ℕ) × (b < suc n) × ((a : ℕ) → a < suc n → f b ≤ f a)
least_at f zero = (0, omega arith, λ a h. let same : a ≡ 0 = omega arith in rw same (omega arith))
least_at f (suc n) = step (least_at f n)
  where
    upto : (b : ℕ) → f b ≤ f (suc n) → ((a : ℕ) → a < suc n → f b ≤ f a) → (a : ℕ) → a < suc (suc n) → f b ≤ f a
    upto b last all a h = ⊎_elim (λ (below : a < suc n). all a below) (λ (past : suc n ≤ a). let same : a ≡ suc n = omega arith in rw same last) (cases_lt a (suc n))

    step : ((b : ℕ) × (b < suc n) × ((a : ℕ) → a < suc n → f b ≤ f a)) → (b : ℕ) × (b < suc (suc n)) × ((a : ℕ) → a < suc (suc n) → f b ≤ f a)
    step (b, place, all) = ⊎_elim
        (λ (less : f (suc n) < f b). (suc n, omega arith, upto (suc n) (omega arith) (λ a h. omega (arith, all a h))))
        (λ (more : f b ≤ f (suc n)). (b, omega arith, upto b more all))
        (cases_lt (f (suc n)) (f b))

-- counts at which each actor lacks tokens make blocking counts, when whole rounds are taken off
module _ (net : Net) (n : ℕ → ℕ) (wired : Wired net) (bal : Balanced net) (stuck : (a : ℕ) → a < length net.times → Lacks net n a (n a))
    (m b : ℕ) (place : b < length net.times) (at_b : m ≡ n b / slice_index net.round b) (least : (a : ℕ) → a < length net.times → m ≤ n a / slice_index net.round a) where
  rest : ℕ → ℕ
  rest a = min (n a - m * slice_index net.round a) (slice_index net.round a)

  rounds-fit : (a : ℕ) → a < length net.times → m * slice_index net.round a ≤ n a
  rounds-fit a actor =
      let le : m * slice_index net.round a ≤ n a / slice_index net.round a * slice_index net.round a = mul-le-mul_right (slice_index net.round a) (least a actor) in
      omega (arith, div-add-mod' (n a) (slice_index net.round a))

  rest-short : rest b < slice_index net.round b
  unfolding rest
  rest-short =
      let split : n b / slice_index net.round b * slice_index net.round b + n b % slice_index net.round b ≡ n b = div-add-mod' (n b) (slice_index net.round b) in
      let below : n b % slice_index net.round b < slice_index net.round b = mod-lt (n b) (bal.fires b place) in
      let same : m * slice_index net.round b ≡ n b / slice_index net.round b * slice_index net.round b = ap (λ (x : ℕ). x * slice_index net.round b) at_b in
      omega arith

  rest-lacks : (a : ℕ) → a < length net.times → rest a < slice_index net.round a → Lacks net rest a (rest a)
  unfolding rest
  rest-lacks a actor short =
      let lack : Lacks net n a (n a) = stuck a actor in
      let i : ℕ = lack.0 in
      let source : ℕ = (channel_at net lack.0).source in
      let w : ℕ = n source - m * slice_index net.round source in
      let mine : n a ≡ rest a + m * slice_index net.round a = omega (arith, rounds-fit a actor) in
      let there : n source ≡ w + m * slice_index net.round source = omega (arith, rounds-fit source (wired.sources lack.0 lack.1)) in
      let need : Needs (channel_at net lack.0) (rest a + m * slice_index net.round a) (w + m * slice_index net.round source) =
      rw (← mine) (rw (← there) lack.3) in
      let at_target : Needs (channel_at net lack.0) (rest a + m * slice_index net.round (channel_at net lack.0).target) (w + m * slice_index net.round source) = rw lack.2 need in
      let lower : Needs (channel_at net lack.0) (rest a) w = needs-unshift net (λ (x : ℕ). m * slice_index net.round x) (whole-rounds net m wired bal) lack.0 lack.1 (rest a) w at_target in
      (lack.0, lack.1, lack.2, fewer-needed (channel_at net lack.0) (rest a) (rest source) w (omega arith) lower)

  rest-blocks : Blocks net rest
  unfolding rest
  rest-blocks = record { within = λ a actor. omega arith; short = (b, place, rest-short); closed = rest-lacks }

  never : IsLive net → ⊥
  never live = live-unblocked net wired live rest rest-blocks

-- where a round can be completed, whatever has fired, some actor lacks no tokens
pub live-never-stuck : (net : Net) → Wired net → Balanced net → 1 ≤ length net.times → IsLive net → (n : ℕ → ℕ) →
    ((a : ℕ) → a < length net.times → Lacks net n a (n a)) → ⊥
live-never-stuck net wired bal some live n stuck = at (least_at (λ (a : ℕ). n a / slice_index net.round a) (length net.times - 1))
  where
    at : ((b : ℕ) × (b < suc (length net.times - 1)) × ((a : ℕ) → a < suc (length net.times - 1) → n b / slice_index net.round b ≤ n a / slice_index net.round a)) → ⊥
    at (b, place, least) = never net n wired bal stuck (n b / slice_index net.round b) b (omega arith) refl (λ a actor. least a (omega arith)) live
