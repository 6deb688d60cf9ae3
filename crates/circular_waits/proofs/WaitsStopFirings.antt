-- Actors that wait for each other fire no more, and with them the rate of the net is 0.
use Rattle.std.proofs.Common.{◌≡◌, ℕ, zero, suc, ◌+◌, ◌-◌, ◌*◌, ◌≤◌, ◌<◌, List, length, ⊎_elim, subst, arith, mul-le-mul_left, mul-le-mul_right}
use Rattle.std.specs.Prelude.{slice_index}
use Rattle.std.proofs.lemmas.Bool.{cases_lt}
use Rattle.sd_base.specs.Net.{Net, channel_at}
use Rattle.sd_base.specs.Schedules.{time_of, Schedule, count_of, start_of, end_of, Admissible}
use Rattle.sd_base.specs.Rates.{Rate}
use Rattle.sd_base.proofs.LawfulIsRegular.{Timed, Wired, Balanced}
use Rattle.circular_waits.specs.CircularWaits.{IsWaitingOn, IsCircularWait, awaited_at, waiting_at}

-- actor a waits for one of these
pub record WaitsForOne (net : Net) (v : ℕ → ℕ) (n : ℕ) (actors : ℕ → ℕ) (a : ℕ) : Type 0 where
  pub channel : ℕ
  pub waits : IsWaitingOn net v a channel
  pub other : ℕ
  pub below : other < n
  pub source : (channel_at net channel).source ≡ actors other

module _ (net : Net) (v : ℕ → ℕ) (long : Timed net) (wires : Wired net) (n : ℕ) (actors : ℕ → ℕ) (all : (j : ℕ) → j < n → WaitsForOne net v n actors (actors j)) (s : Schedule) (good : Admissible net s) where
  -- by the moment of its start
  unstarted : (fuel j : ℕ) → j < n → v (actors j) < count_of s (actors j) → start_of s (actors j) (v (actors j)) < fuel → ⊥
  unstarted zero j below there soon = absurd (omega arith)
  unstarted (suc fuel) j below there soon =
      let a : ℕ = actors j in
      let on = all j below in
      let i : ℕ = on.channel in
      let source : ℕ = (channel_at net i).source in
      let at_target : v a < count_of s (channel_at net i).target = rw on.waits.into there in
      let fed = good.fed i (v a) (v source) on.waits.place at_target on.waits.lacks in
      let started : v source < count_of s source = fed.0 in
      let in_time : end_of net s source (v source) ≤ start_of s (channel_at net i).target (v a) = fed.1 in
      let before : end_of net s source (v source) ≤ start_of s a (v a) = subst (λ (b : ℕ). end_of net s source (v source) ≤ start_of s b (v a)) on.waits.into in_time in
      let takes : 1 ≤ time_of net source (v source) = long.some source (v source) (wires.sources i on.waits.place) in
      let soon' : start_of s source (v source) < fuel = omega arith in
      unstarted fuel on.other on.below (subst (λ (b : ℕ). v b < count_of s b) on.source started) (subst (λ (b : ℕ). start_of s b (v b) < fuel) on.source soon')

  pub waits-bound : (j : ℕ) → j < n → count_of s (actors j) ≤ v (actors j)
  waits-bound j below = ⊎_elim
      (λ (more : v (actors j) < count_of s (actors j)). absurd (unstarted (suc (start_of s (actors j) (v (actors j)))) j below more (omega arith)))
      (λ (h : count_of s (actors j) ≤ v (actors j)). h) (cases_lt (v (actors j)) (count_of s (actors j)))

-- each actor of a circular wait waits for one of them
pub wait-next : (net : Net) (v : ℕ → ℕ) (channels : List ℕ) → IsCircularWait net v channels → (j : ℕ) → j < length channels →
    (k : ℕ) × (k < length channels) × (awaited_at net channels j ≡ waiting_at net channels k)
wait-next net v channels wait j below = ⊎_elim
    (λ (more : j + 1 < length channels). (j + 1, more, wait.next j more))
    (λ (last : length channels ≤ j + 1).
    let same : j ≡ length channels - 1 = omega arith in
    (0, wait.some, rw same wait.closes))
    (cases_lt (j + 1) (length channels))

pub wait-each : (net : Net) (v : ℕ → ℕ) (channels : List ℕ) → IsCircularWait net v channels → (j : ℕ) → j < length channels →
    WaitsForOne net v (length channels) (waiting_at net channels) (waiting_at net channels j)
wait-each net v channels wait j below =
    let on = wait-next net v channels wait j below in
    record { channel = slice_index channels j; waits = wait.waits j below; other = on.0; below = on.1; source = on.2 }

level : (x b : ℕ) → ((t : ℕ) → x * t ≤ b) → x ≡ 0
level x b below = ⊎_elim
    (λ (more : 0 < x). absurd (
    let far : x * (b + 1) ≤ b = below (b + 1) in
    let steep : 1 * (b + 1) ≤ x * (b + 1) = mul-le-mul_right (b + 1) (omega arith) in
    omega arith))
    (λ (h : x ≤ 0). omega arith) (cases_lt 0 x)

-- a net of which one actor has no more than so many firings in any schedule has rate 0
pub few-zero : (net : Net) → Balanced net → (a n : ℕ) → a < length net.times → ((s : Schedule) → Admissible net s → count_of s a ≤ n) → (p q : ℕ) → Rate net p q → p ≡ 0
few-zero net bal a n actor few p q rate =
    let fires : 1 ≤ slice_index net.round a = bal.fires a actor in
    let flat : p * slice_index net.round a ≡ 0 = level (p * slice_index net.round a) (q * n + rate.slack) lines in
    let some : p * 1 ≤ p * slice_index net.round a = mul-le-mul_left p fires in
    omega arith
  where
    lines : (t : ℕ) → p * slice_index net.round a * t ≤ q * n + rate.slack
    lines t =
        let found = rate.bounds.below t in
        let low : p * slice_index net.round a * t ≤ q * count_of found.0 a + rate.slack = found.2 a actor in
        let scaled : q * count_of found.0 a ≤ q * n = mul-le-mul_left q (few found.0 found.1.admissible) in
        omega arith

-- so has one in which some actors wait for each other
pub waits-zero : (net : Net) (v : ℕ → ℕ) → Timed net → Wired net → Balanced net → (n : ℕ) (actors : ℕ → ℕ) → 0 < n →
    ((j : ℕ) → j < n → WaitsForOne net v n actors (actors j)) → (p q : ℕ) → Rate net p q → p ≡ 0
waits-zero net v long wires bal n actors some all p q rate =
    few-zero net bal (actors 0) (v (actors 0)) (all 0 some).waits.actor (λ s good. waits-bound net v long wires n actors all s good 0 some) p q rate
