-- Counts at which no actor can go on bound every run and every schedule, and runs end in one of them.
use Rattle.std.proofs.Common.{◌≡◌, ℕ, zero, suc, ◌+◌, ◌-◌, ◌*◌, ◌/◌, ◌%◌, ◌≤◌, ◌<◌, ◌⊎◌, Bool, true, false, List, [], ◌∷◌, length, min, inl, inr, ⊎_elim, subst, sym, refl, ap, ◌∙◌, arith}
use Rattle.std.specs.Prelude.{slice_index}
use Rattle.std.proofs.lemmas.Bool.{cases_lt, cases_order, cases_eq}
use Rattle.sd_base.specs.Net.{Net, channel_at, total}
use Rattle.sd_base.specs.Schedules.{time_of, Needs, Lacks, Schedule, count_of, start_of, end_of, Admissible}
use Rattle.sd_base.specs.Untimed.{none_fired, one_more, Fires, counts_after, IsLive, Closed, Blocks, IsEnd}
use Rattle.sd_base.proofs.SumsRepeatByTurns.{total-le}
use Rattle.sd_base.proofs.LawfulIsRegular.{Timed, Wired, Balanced}

-- ---- runs

pub bump-same : (v : ℕ → ℕ) (a : ℕ) → one_more v a a ≡ v a + 1
bump-same v a = rw (Rattle.std.proofs.Common.eq-eqb a a refl) refl

pub bump-other : (v : ℕ → ℕ) (a b : ℕ) → (b ≡ a → ⊥) → one_more v a b ≡ v b
bump-other v a b apart = rw (Rattle.std.proofs.Common.ne_eqb b a apart) refl

pub bump-more : (v : ℕ → ℕ) (a b : ℕ) → v b ≤ one_more v a b
bump-more v a b = ⊎_elim (λ (same : b ≡ a). rw same (rw (bump-same v a) (omega arith))) (λ (apart : b ≡ a → ⊥). rw (bump-other v a b apart) (omega arith)) (cases_eq b a)

-- each firing up to the new one is an earlier one, or it is the new one
pub bump-cases : (v : ℕ → ℕ) (a b j : ℕ) → j < one_more v a b → (j < v b) ⊎ ((b ≡ a) × (j ≡ v a))
bump-cases v a b j below = ⊎_elim
    (λ (same : b ≡ a).
    let c : j < v a + 1 = subst (λ (n : ℕ). j < n) (ap (λ (d : ℕ). one_more v a d) same ∙ bump-same v a) below in
    ⊎_elim (λ (h : j < v a). inl (subst (λ (d : ℕ). j < v d) (sym same) h)) (λ (h : v a ≤ j). inr (same, (let e : j ≡ v a = omega arith in e))) (cases_lt j (v a)))
    (λ (apart : b ≡ a → ⊥). inl (subst (λ (n : ℕ). j < n) (bump-other v a b apart) below))
    (cases_eq b a)

-- no run passes a closed vector
pub run-below : (net : Net) (w : ℕ → ℕ) → Wired net → Closed net w → (order : List ℕ) (v : ℕ → ℕ) → Fires net v order →
    ((b : ℕ) → b < length net.times → v b ≤ w b) → (b : ℕ) → b < length net.times → counts_after v order b ≤ w b
run-below net w wired closed [] v fires below = below
run-below net w wired closed (a ∷ order) v fires below = run-below net w wired closed order (one_more v a) fires.3 raised
  where
    more : v a < w a
    more = ⊎_elim (λ (h : v a < w a). h) (λ (stop : w a ≤ v a). absurd (
        let lack : Lacks net w a (w a) = closed a fires.0 (omega (arith, fires.1)) in
        let feeds : total (channel_at net lack.0).taken (v a + 1) ≤ (channel_at net lack.0).tokens + total (channel_at net lack.0).made (v (channel_at net lack.0).source) = fires.2 lack.0 lack.1 lack.2 in
        let made : total (channel_at net lack.0).made (v (channel_at net lack.0).source) ≤ total (channel_at net lack.0).made (w (channel_at net lack.0).source) = total-le (channel_at net lack.0).made (below (channel_at net lack.0).source (wired.sources lack.0 lack.1)) in
        let taken : total (channel_at net lack.0).taken (w a + 1) ≤ total (channel_at net lack.0).taken (v a + 1) = total-le (channel_at net lack.0).taken (omega arith) in
        let need : Needs (channel_at net lack.0) (w a) (w (channel_at net lack.0).source) = lack.3 in
        omega arith)) (cases_lt (v a) (w a))

    raised : (b : ℕ) → b < length net.times → one_more v a b ≤ w b
    raised b actor = ⊎_elim
        (λ (same : b ≡ a). rw same (rw (bump-same v a) (omega (arith, more))))
        (λ (apart : b ≡ a → ⊥). rw (bump-other v a b apart) (below b actor))
        (cases_eq b a)

-- no run passes the round
pub run-within : (net : Net) (order : List ℕ) (v : ℕ → ℕ) → Fires net v order →
    ((b : ℕ) → b < length net.times → v b ≤ slice_index net.round b) → (b : ℕ) → b < length net.times → counts_after v order b ≤ slice_index net.round b
run-within net [] v fires below = below
run-within net (a ∷ order) v fires below = run-within net order (one_more v a) fires.3 raised
  where
    raised : (b : ℕ) → b < length net.times → one_more v a b ≤ slice_index net.round b
    raised b actor = ⊎_elim
        (λ (same : b ≡ a). rw same (rw (bump-same v a) (omega (arith, fires.1))))
        (λ (apart : b ≡ a → ⊥). rw (bump-other v a b apart) (below b actor))
        (cases_eq b a)

-- ending counts don't depend on the order of the firings
pub one_end : (net : Net) → Wired net → (v w : ℕ → ℕ) → IsEnd net v → IsEnd net w → (a : ℕ) → a < length net.times → v a ≡ w a
one_end net wired v w one other a actor =
    let up : counts_after none_fired one.order a ≤ w a = run-below net w wired other.closed one.order none_fired one.fires (λ b is. omega arith) a actor in
    let down : counts_after none_fired other.order a ≤ v a = run-below net v wired one.closed other.order none_fired other.fires (λ b is. omega arith) a actor in
    omega (arith, one.counts a actor, other.counts a actor)

-- ending counts are the least closed ones
pub end-least : (net : Net) → Wired net → (v w : ℕ → ℕ) → IsEnd net v → Closed net w → (a : ℕ) → a < length net.times → v a ≤ w a
end-least net wired v w end closed a actor =
    omega (arith, end.counts a actor, run-below net w wired closed end.order none_fired end.fires (λ b is. omega arith) a actor)

-- a net of which a round can be completed has no blocking counts
pub live-unblocked : (net : Net) → Wired net → IsLive net → (v : ℕ → ℕ) → Blocks net v → ⊥
live-unblocked net wired live v blocks =
    let short = blocks.short in
    let run : counts_after none_fired live.0 short.0 ≤ v short.0 = run-below net v wired blocks.closed live.0 none_fired live.1.fires (λ b is. omega arith) short.0 short.1 in
    let whole : counts_after none_fired live.0 short.0 ≡ slice_index net.round short.0 = live.1.whole short.0 short.1 in
    let less : v short.0 < slice_index net.round short.0 = short.2 in
    omega arith

-- the first actor below a bound, if there is one
short_or_whole : (v g : ℕ → ℕ) (n : ℕ) → ((a : ℕ) → a < n → v a ≤ g a) → ((a : ℕ) × (a < n) × (v a < g a)) ⊎ ((a : ℕ) → a < n → v a ≡ g a)
short_or_whole v g zero below = inr (λ a h. absurd (omega arith))
short_or_whole v g (suc n) below = step (short_or_whole v g n (λ a h. below a (omega arith))) (cases_lt (v n) (g n))
  where
    step : ((a : ℕ) × (a < n) × (v a < g a)) ⊎ ((a : ℕ) → a < n → v a ≡ g a) → (v n < g n) ⊎ (g n ≤ v n) →
        ((a : ℕ) × (a < suc n) × (v a < g a)) ⊎ ((a : ℕ) → a < suc n → v a ≡ g a)
    step (inl found) other = inl (found.0, omega (arith, found.1), found.2)
    step (inr all) (inl less) = inl (n, omega arith, less)
    step (inr all) (inr whole) = inr (λ a h. ⊎_elim
        (λ (same : a ≡ n). rw same (omega (arith, below n (omega arith))))
        (λ (apart : (a < n) ⊎ (n < a)). ⊎_elim (λ (less : a < n). all a less) (λ (more : n < a). absurd (omega arith)) apart)
        (cases_order a n))

-- a run that ends has fired a whole round, or its counts block the net
pub end-splits : (net : Net) (v : ℕ → ℕ) → IsEnd net v → ((a : ℕ) → a < length net.times → v a ≡ slice_index net.round a) ⊎ Blocks net v
end-splits net v end = ⊎_elim
    (λ (short : (a : ℕ) × (a < length net.times) × (v a < slice_index net.round a)). inr (record { within = within; short = short; closed = end.closed }))
    (λ (whole : (a : ℕ) → a < length net.times → v a ≡ slice_index net.round a). inl whole)
    (short_or_whole v (slice_index net.round) (length net.times) within)
  where
    within : (a : ℕ) → a < length net.times → v a ≤ slice_index net.round a
    within a actor = omega (arith, end.counts a actor, run-within net end.order none_fired end.fires (λ b is. omega arith) a actor)

pub end-decides : (net : Net) (v : ℕ → ℕ) → IsEnd net v → IsLive net ⊎ Blocks net v
end-decides net v end = ⊎_elim
    (λ (whole : (a : ℕ) → a < length net.times → v a ≡ slice_index net.round a). inl (end.order, record { fires = end.fires; whole = λ a actor. end.counts a actor ∙ whole a actor }))
    (λ (blocks : Blocks net v). inr blocks)
    (end-splits net v end)

-- ---- schedules

-- the actor that a blocked firing waits for is below its round too
pub source-short : (net : Net) (v : ℕ → ℕ) → Wired net → Balanced net → Blocks net v → (i : ℕ) → i < length net.channels → (a : ℕ) → (channel_at net i).target ≡ a →
    v a < slice_index net.round a → Needs (channel_at net i) (v a) (v (channel_at net i).source) → v (channel_at net i).source < slice_index net.round (channel_at net i).source
source-short net v wired bal blocks i place a into short need = ⊎_elim (λ (h : v (channel_at net i).source < slice_index net.round (channel_at net i).source). h)
    (λ (whole : slice_index net.round (channel_at net i).source ≤ v (channel_at net i).source). absurd (
    let made : total (channel_at net i).made (slice_index net.round (channel_at net i).source) ≤ total (channel_at net i).made (v (channel_at net i).source) = total-le (channel_at net i).made whole in
    let kept : total (channel_at net i).made (slice_index net.round (channel_at net i).source) ≡ total (channel_at net i).taken (slice_index net.round a) = rw into at (bal.kept i place) in
    let taken : total (channel_at net i).taken (v a + 1) ≤ total (channel_at net i).taken (slice_index net.round a) = total-le (channel_at net i).taken (omega arith) in
    omega arith))
    (cases_lt (v (channel_at net i).source) (slice_index net.round (channel_at net i).source))

-- no schedule has a firing that blocking counts bar, by the moment of its start
barred : (net : Net) (v : ℕ → ℕ) → Timed net → Wired net → Balanced net → Blocks net v → (s : Schedule) → Admissible net s → (fuel a : ℕ) → a < length net.times →
    v a < slice_index net.round a → v a < count_of s a → start_of s a (v a) < fuel → ⊥
barred net v long wired bal blocks s good zero a actor short there soon = absurd (omega arith)
barred net v long wired bal blocks s good (suc fuel) a actor short there soon =
    let lack : Lacks net v a (v a) = blocks.closed a actor short in
    let source : ℕ = (channel_at net lack.0).source in
    let at_target : v a < count_of s (channel_at net lack.0).target = rw lack.2 there in
    let fed = good.fed lack.0 (v a) (v source) lack.1 at_target lack.3 in
    let started : v source < count_of s source = fed.0 in
    let in_time : end_of net s source (v source) ≤ start_of s (channel_at net lack.0).target (v a) = fed.1 in
    let before : end_of net s source (v source) ≤ start_of s a (v a) = subst (λ (b : ℕ). end_of net s source (v source) ≤ start_of s b (v a)) lack.2 in_time in
    let takes : 1 ≤ time_of net source (v source) = long.some source (v source) (wired.sources lack.0 lack.1) in
    barred net v long wired bal blocks s good fuel source (wired.sources lack.0 lack.1)
    (source-short net v wired bal blocks lack.0 lack.1 a lack.2 short lack.3) started (omega arith)

-- blocking counts bound every admissible schedule on the actors below their round
pub blocked-bounds : (net : Net) (v : ℕ → ℕ) → Timed net → Wired net → Balanced net → Blocks net v → (s : Schedule) → Admissible net s →
    (a : ℕ) → a < length net.times → v a < slice_index net.round a → count_of s a ≤ v a
blocked-bounds net v long wired bal blocks s good a actor short = ⊎_elim
    (λ (more : v a < count_of s a). absurd (barred net v long wired bal blocks s good (suc (start_of s a (v a))) a actor short more (omega arith)))
    (λ (h : count_of s a ≤ v a). h) (cases_lt (v a) (count_of s a))
