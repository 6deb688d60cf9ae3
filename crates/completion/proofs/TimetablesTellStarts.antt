-- A timetable tells when firings start.
use Rattle.std.proofs.Common.{◌≡◌, ℕ, ◌+◌, ◌-◌, ◌*◌, ◌/◌, ◌%◌, ◌≤◌, ◌<◌, Bool, true, false, length, ⊎_elim, subst, sym, refl, ap, ◌∙◌, arith, mod-lt, div-add-mod', mul-le-mul_left, mul-le-mul_right}
use Rattle.sd_base.specs.declared.limits.TheConstants.{ROUNDS}
use Rattle.std.specs.Prelude.{slice_index, if◌then◌else◌, nat_lt}
use Rattle.std.proofs.lemmas.Bool.{cases_lt, ltb-true, ltb-false}
use Rattle.completion.specs.declared.timetable.Timetable.{Timetable}
use Rattle.completion.specs.Ways.{StartsAt}
use Rattle.sd_base.specs.Net.{Net}
use Rattle.sd_base.specs.Schedules.{Schedule, count_of, end_of, start_of}
use Rattle.sd_base.specs.SelfTimed.{earliest}
use Rattle.sd_base.proofs.LoopPasses as passes
use Rattle.sd_base.proofs.EqualShapesRepeat.{count-rises}
use Rattle.critical.specs.inside.Trails.{IsShortLoop}
use Rattle.critical.proofs.LoopsAreShort.{short-loop}
use Rattle.critical.proofs.PassesRepeat as shared
use Rattle.critical.proofs.PassesRepeat.{up_to}
use Rattle.completion.specs.inside.Timetables.{IsFull, IsTimetable, before_of, looped_moment, moment_of, pass_of}
use Rattle.completion.proofs.FiringsStartOnce.{early, start-is}

module _ (net : Net) (times : Timetable) (is : IsTimetable net times) where
  short : IsShortLoop net times.table
  short = short-loop net times.table is.laws is.inputs is.loop is.few

  pub rows-early : length times.early.items ≡ length net.times
  rows-early = ap length is.early ∙ (early net is.laws is.inputs (times.table.entry + 1)).admissible.actors

  pub before-is : (a : ℕ) → before_of times a ≡ count_of (earliest net (times.table.entry + 1)) a
  before-is a = ap (λ (s : Schedule). count_of s a) is.early

  pub pass-is : (a : ℕ) → a < length net.times → pass_of times a ≡ times.table.rounds * slice_index net.round a
  pass-is a actor = is.loop.whole a actor

  pub some-pass : (a : ℕ) → a < length net.times → 1 ≤ pass_of times a
  some-pass a actor = rw (pass-is a actor) (shared.some-pass net is.laws is.inputs times.table is.loop a actor)

  pub full : IsFull times
  full = record { rows = rows-early ∙ sym is.loop.rows; some = λ a row. some-pass a (omega (arith, is.loop.rows)) }

  pub counts-at : (q a : ℕ) → a < length net.times → count_of (up_to net times.table q) a ≡ before_of times a + q * pass_of times a
  counts-at q a actor = rw (pass-is a actor) (omega (arith, shared.counts-at net is.laws is.inputs times.table is.loop q a, before-is a))

  -- what is in one pass, further on by passes
  pub pass-on : (p q a k : ℕ) → a < length net.times → before_of times a ≤ k → k < count_of (up_to net times.table q) a →
      start_of (up_to net times.table (p + q)) a (k + p * pass_of times a) ≡ start_of (up_to net times.table q) a k + p * times.table.period
  pass-on p q a k actor from there =
      let late : times.table.entry < end_of net (up_to net times.table q) a k = passes.ends-after net is.laws is.inputs times.table.entry times.table.period times.table.rounds times.table.before times.table.starts is.loop
      (times.table.entry + q * times.table.period + 1) a k (omega (arith, before-is a)) there in
      rw (pass-is a actor) (shared.pass-on net is.laws is.inputs times.table is.loop p q a k there late)

  looped-starts : (a later : ℕ) → a < length net.times → StartsAt net a (before_of times a + later) (looped_moment times a later)
  looped-starts a later actor =
      let s : ℕ = pass_of times a in
      let q : ℕ = later / s in
      let i : ℕ = later % s in
      let some : 1 ≤ s = some-pass a actor in
      let split : q * s + i ≡ later = div-add-mod' later s in
      let within : i < s = mod-lt later some in
      let k : ℕ = before_of times a + i in
      let first : k < count_of (up_to net times.table 1) a = omega (arith, counts-at 1 a actor) in
      let on : start_of (up_to net times.table (q + 1)) a (k + q * s) ≡ start_of (up_to net times.table 1) a k + q * times.table.period = pass-on q 1 a k actor (omega arith) first in
      let at_one : times.table.entry + 1 * times.table.period + 1 ≡ times.table.entry + times.table.period + 1 = omega arith in
      let same_before : slice_index times.table.before a ≡ before_of times a = is.loop.earlier a actor ∙ sym (before-is a) in
      let listed : start_of times.table.starts a i ≡ start_of (earliest net (times.table.entry + times.table.period + 1)) a (slice_index times.table.before a + i) = is.loop.moments a i actor within in
      let read : start_of times.table.starts a i ≡ start_of (up_to net times.table 1) a k = rw at_one (rw same_before at listed) in
      let place : k + q * s ≡ before_of times a + later = omega arith in
      let started : before_of times a + later < count_of (up_to net times.table (q + 1)) a = omega (arith, counts-at (q + 1) a actor) in
      let there : start_of (up_to net times.table (q + 1)) a (k + q * s) ≡ looped_moment times a later = omega (arith, on) in
      record { by = times.table.entry + (q + 1) * times.table.period + 1; there = started; at = subst (λ (j : ℕ). start_of (up_to net times.table (q + 1)) a j ≡ looped_moment times a later) place there }

  pub moment-starts : (a k : ℕ) → a < length net.times → StartsAt net a k (moment_of times a k)
  moment-starts a k actor = each (nat_lt k (before_of times a)) refl
    where
      each : (b : Bool) → nat_lt k (before_of times a) ≡ b → StartsAt net a k (if b then start_of times.early.items a k else looped_moment times a (k - before_of times a))
      each true soon = record {
        by = times.table.entry + 1;
        there = omega (arith, ltb-true k (before_of times a) soon, before-is a);
        at = ap (λ (s : Schedule). start_of s a k) (sym is.early);
      }
      each false late =
          let le : before_of times a ≤ k = ltb-false k (before_of times a) late in
          let place : before_of times a + (k - before_of times a) ≡ k = omega arith in
          subst (λ (j : ℕ). StartsAt net a j (looped_moment times a (k - before_of times a))) place (looped-starts a (k - before_of times a) actor)

  -- after the entry a pass takes a period
  pub moment-later : (a k p : ℕ) → a < length net.times → before_of times a ≤ k → moment_of times a (k + p * pass_of times a) ≡ moment_of times a k + p * times.table.period
  moment-later a k p actor from =
      let many : k ≤ k * pass_of times a = rw (pass-is a actor) (shared.grows net is.laws is.inputs times.table is.loop a k actor) in
      let there : k < count_of (up_to net times.table (k + 1)) a = shared.enough-passes net is.laws is.inputs times.table is.loop a k actor in
      let started : k + p * pass_of times a < count_of (up_to net times.table (p + (k + 1))) a = omega (arith, counts-at (p + (k + 1)) a actor, counts-at (k + 1) a actor) in
      let here : start_of (up_to net times.table (k + 1)) a k ≡ moment_of times a k = start-is net is.laws is.inputs a k (moment_of times a k) (times.table.entry + (k + 1) * times.table.period + 1) (moment-starts a k actor) there in
      let next : start_of (up_to net times.table (p + (k + 1))) a (k + p * pass_of times a) ≡ moment_of times a (k + p * pass_of times a) =
      start-is net is.laws is.inputs a (k + p * pass_of times a) (moment_of times a (k + p * pass_of times a)) (times.table.entry + (p + (k + 1)) * times.table.period + 1) (moment-starts a (k + p * pass_of times a) actor) started in
      let on : start_of (up_to net times.table (p + (k + 1))) a (k + p * pass_of times a) ≡ start_of (up_to net times.table (k + 1)) a k + p * times.table.period = pass-on p (k + 1) a k actor from there in
      omega arith

  -- who starts after so many passes has so many numbers
  pub late-number : (q a k m : ℕ) → a < length net.times → StartsAt net a k m → times.table.entry + q * times.table.period < m → before_of times a + q * pass_of times a ≤ k
  late-number q a k m actor at late = ⊎_elim
      (λ (soon : k < count_of (up_to net times.table q) a). absurd (
      let before : start_of (up_to net times.table q) a k < times.table.entry + q * times.table.period + 1 = (early net is.laws is.inputs (times.table.entry + q * times.table.period + 1)).before a k soon in
      let here : start_of (up_to net times.table q) a k ≡ m = start-is net is.laws is.inputs a k m (times.table.entry + q * times.table.period + 1) at soon in
      omega arith))
      (λ (h : count_of (up_to net times.table q) a ≤ k). omega (arith, counts-at q a actor))
      (cases_lt k (count_of (up_to net times.table q) a))

  -- and the other way round
  pub late-moment : (q a k m : ℕ) → a < length net.times → StartsAt net a k m → before_of times a + q * pass_of times a ≤ k → times.table.entry + q * times.table.period < m
  late-moment q a k m actor at from =
      let late : times.table.entry + q * times.table.period < start_of (earliest net at.by) a k = shared.starts-after net is.laws is.inputs times.table is.loop q at.by a k (omega (arith, counts-at q a actor)) at.there in
      omega (arith, at.at)

  -- of n rounds few firings of an actor have started by then
  pub few-counts : (n a b k m : ℕ) → a < length net.times → b < length net.times → n ≤ ROUNDS → StartsAt net a k m → k < n * slice_index net.round a → count_of (earliest net (m + 1)) b ≤ 8000000000000
  few-counts n a b k m actor other few at within =
      let turns : n * slice_index net.round a ≤ n * pass_of times a =
      mul-le-mul_left n (rw (pass-is a actor) (let le : 1 * slice_index net.round a ≤ times.table.rounds * slice_index net.round a = mul-le-mul_right (slice_index net.round a) is.loop.turns in omega arith)) in
      let there : k < count_of (up_to net times.table n) a = omega (arith, counts-at n a actor) in
      let here : start_of (up_to net times.table n) a k ≡ m = start-is net is.laws is.inputs a k m (times.table.entry + n * times.table.period + 1) at there in
      let before : start_of (up_to net times.table n) a k < times.table.entry + n * times.table.period + 1 = (early net is.laws is.inputs (times.table.entry + n * times.table.period + 1)).before a k there in
      let rise : count_of (earliest net (m + 1)) b ≤ count_of (up_to net times.table n) b = count-rises net (Rattle.sd_base.proofs.LawfulIsRegular.regular net is.laws) is.inputs (m + 1) (times.table.entry + n * times.table.period + 1) (omega arith) b in
      let all : slice_index times.table.before b + pass_of times b ≤ 4000000 = short.short.few b (omega (arith, is.loop.rows)) in
      let same_before : slice_index times.table.before b ≡ before_of times b = is.loop.earlier b other ∙ sym (before-is b) in
      let less : n * pass_of times b ≤ n * 4000000 = mul-le-mul_left n (omega arith) in
      omega (arith, counts-at n b other)
