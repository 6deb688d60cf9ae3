-- Self-timed execution pass by pass round a loop.
use Rattle.std.proofs.Common.{◌≡◌, ℕ, zero, suc, ◌+◌, ◌*◌, ◌≤◌, ◌<◌, List, ⊎_elim, arith, mul-le-mul, mul-le-mul_left, mul-le-mul_right}
use Rattle.std.proofs.lemmas.Bool.{cases_lt}
use Rattle.std.specs.Prelude.{length, slice_index}
use Rattle.sd_base.specs.Net.{Net}
use Rattle.sd_base.specs.Schedules.{Schedule, time_of, count_of, start_of, end_of, Earliest, HasInputs}
use Rattle.sd_base.specs.SelfTimed.{earliest}
use Rattle.sd_base.specs.Lawful.{Lawful}
use Rattle.sd_base.specs.Rates.{IsLoopTable}
use Rattle.sd_base.specs.Futures.{Repeats}
use Rattle.sd_base.proofs.LawfulIsRegular.{regular, wired, balanced}
use Rattle.sd_base.proofs.FiringsKeepOrder.{is_actor}
use Rattle.sd_base.proofs.EndsDecideCounts.{early_at}
use Rattle.sd_base.proofs.RoundsKeepTokens.{Whole, whole-times, whole-rounds, time-shift}
use Rattle.sd_base.proofs.StartsMeetEnds.{earliest-within}
use Rattle.sd_base.proofs.LoopRates.{table-repeats}

module _ (net : Net) (laws : Lawful net) (inputs : HasInputs net) (entry period rounds : ℕ) (before : List ℕ) (starts : List (List ℕ))
    (table : IsLoopTable net entry period rounds before starts) where
  -- how many firings of an actor make a pass
  abbrev pass : ℕ → ℕ
  pass a = rounds * slice_index net.round a

  -- the earliest schedule up to and with the end of pass q
  abbrev up_to : ℕ → Schedule
  up_to q = earliest net (entry + q * period + 1)

  pub early : (t : ℕ) → Earliest net t (earliest net t)
  early t = early_at net (regular net laws) inputs t

  pub again : Repeats net entry (entry + period) (λ a. rounds * slice_index net.round a)
  again = table-repeats net laws inputs entry period rounds before starts table

  pub whole : Whole net (λ a. rounds * slice_index net.round a)
  whole = whole-rounds net rounds (wired net laws) (balanced net laws)

  pub whole-passes : (n : ℕ) → Whole net (λ a. n * (rounds * slice_index net.round a))
  whole-passes n = whole-times net (λ a. rounds * slice_index net.round a) n whole

  pub some-pass : (a : ℕ) → a < length net.times → 1 ≤ pass a
  some-pass a actor = mul-le-mul table.turns ((balanced net laws).fires a actor)

  pub time-passes : (n a k : ℕ) → a < length net.times → time_of net a (k + n * pass a) ≡ time_of net a k
  time-passes n a k actor = time-shift net (λ b. n * pass b) (whole-passes n) a k actor

  next-at : (q : ℕ) → entry + period + q * period + 1 ≡ entry + suc q * period + 1
  next-at q = omega arith

  pub counts-at : (q a : ℕ) → count_of (up_to q) a ≡ count_of (earliest net (entry + 1)) a + q * pass a
  counts-at zero a =
      let e : entry + 0 * period + 1 ≡ entry + 1 = omega arith in
      rw e (omega arith)
  counts-at (suc q) a =
      let step : count_of (up_to (suc q)) a ≡ count_of (up_to q) a + pass a = rw next-at at (again.counts (q * period) a) in
      omega (arith, counts-at q a)

  -- who hasn't started by the end of a pass starts after it
  pub starts-after : (q t a k : ℕ) → count_of (up_to q) a ≤ k → k < count_of (earliest net t) a → entry + q * period < start_of (earliest net t) a k
  starts-after q t a k from there = ⊎_elim
      (λ (soon : start_of (earliest net t) a k < entry + q * period + 1). absurd (
      let now : k < count_of (up_to q) a = ((early (entry + q * period + 1)).least (earliest net t) (early t).admissible a k there soon).0 in omega arith))
      (λ (h : entry + q * period + 1 ≤ start_of (earliest net t) a k). omega arith)
      (cases_lt (start_of (earliest net t) a k) (entry + q * period + 1))

  -- so it ends after the entry too
  pub ends-after : (t a k : ℕ) → count_of (earliest net (entry + 1)) a ≤ k → k < count_of (earliest net t) a → entry < end_of net (earliest net t) a k
  ends-after t a k from there =
      let e : entry + 0 * period + 1 ≡ entry + 1 = omega arith in
      let late : entry + 0 * period < start_of (earliest net t) a k = starts-after 0 t a k (rw e from) there in
      omega arith

  pub step-on : (q a k : ℕ) → k < count_of (up_to q) a → entry < end_of net (up_to q) a k → start_of (up_to (suc q)) a (k + pass a) ≡ start_of (up_to q) a k + period
  step-on q a k there late =
      let moved : start_of (earliest net (entry + period + q * period + 1)) a (k + pass a) + entry ≡ start_of (up_to q) a k + (entry + period) = again.starts (q * period) a k there late in
      let here : start_of (up_to (suc q)) a (k + pass a) + entry ≡ start_of (up_to q) a k + (entry + period) = rw next-at at moved in
      omega arith

  -- p passes further on
  pub pass-on : (p q a k : ℕ) → k < count_of (up_to q) a → entry < end_of net (up_to q) a k → start_of (up_to (p + q)) a (k + p * pass a) ≡ start_of (up_to q) a k + p * period
  pass-on zero q a k there late =
      let e : k + 0 * pass a ≡ k = omega arith in
      let f : 0 + q ≡ q = omega arith in
      rw (e, f) (omega arith)
  pass-on (suc p) q a k there late =
      let e : k + suc p * pass a ≡ (k + p * pass a) + pass a = omega arith in
      let f : suc p + q ≡ suc (p + q) = omega arith in
      let further : start_of (up_to (p + q)) a (k + p * pass a) ≡ start_of (up_to q) a k + p * period = pass-on p q a k there late in
      let actor : a < length net.times = is_actor net (up_to q) a k (early (entry + q * period + 1)).admissible there in
      let far : k + p * pass a < count_of (up_to (p + q)) a = omega (arith, counts-at (p + q) a, counts-at q a) in
      let same : time_of net a (k + p * pass a) ≡ time_of net a k = time-passes p a k actor in
      rw (e, f) (omega (arith, step-on (p + q) a (k + p * pass a) far (omega arith)))

  -- all schedules that have a firing agree on it
  pub agree-at : (p q a k : ℕ) → k < count_of (up_to p) a → k < count_of (up_to q) a → start_of (up_to p) a k ≡ start_of (up_to q) a k
  agree-at p q a k one other =
      let t : ℕ = entry + (p + q) * period + 1 in
      let up : p * period ≤ (p + q) * period = mul-le-mul_right period (omega arith) in
      let on : q * period ≤ (p + q) * period = mul-le-mul_right period (omega arith) in
      let left : start_of (earliest net t) a k ≡ start_of (up_to p) a k =
      (earliest-within net (entry + p * period + 1) t (up_to p) (earliest net t) (early (entry + p * period + 1)) (early t) (omega arith) a k one).1 in
      let right : start_of (earliest net t) a k ≡ start_of (up_to q) a k =
      (earliest-within net (entry + q * period + 1) t (up_to q) (earliest net t) (early (entry + q * period + 1)) (early t) (omega arith) a k other).1 in
      omega arith

  pub grows : (a n : ℕ) → a < length net.times → n ≤ n * pass a
  grows a n actor =
      let le : n * 1 ≤ n * pass a = mul-le-mul_left n (some-pass a actor) in omega arith

  -- so many passes have a firing
  pub enough-passes : (a k : ℕ) → a < length net.times → k < count_of (up_to (k + 1)) a
  enough-passes a k actor = omega (arith, counts-at (k + 1) a, grows a (k + 1) actor)
