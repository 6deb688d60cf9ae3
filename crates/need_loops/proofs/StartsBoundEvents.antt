-- There is at most one event more than firings that have started.
use Rattle.std.proofs.Common.{◌≡◌, ℕ, zero, suc, ◌+◌, ◌≤◌, ◌<◌, true, false, List, length, inl, inr, ⊎_elim, arith}
use Rattle.std.specs.Prelude.{map, sum}
use Rattle.std.proofs.lemmas.Bool.{cases_lt, cases_Bool}
use Rattle.sd_base.specs.Net.{Net}
use Rattle.sd_base.specs.Schedules.{HasInputs, count_of, end_of}
use Rattle.sd_base.specs.SelfTimed.{earliest, IsEvent, is_event, events_by, starts_by}
use Rattle.sd_base.specs.Lawful.{Lawful}
use Rattle.sd_base.proofs.LawfulIsRegular.{regular}
use Rattle.sd_base.proofs.FiringsKeepOrder.{no_actor}
use Rattle.sd_base.proofs.EndsDecideCounts.{early_at, ended_at, ended-at-is, ended-by-is, ended-same}
use Rattle.sd_base.proofs.FiringOrdersEnd.{sum_to, sum_to-le, sum_to-lt}
use Rattle.sd_base.proofs.EndsAreEvents.{event-tells}
use Rattle.sd_base.proofs.NextMomentIsEarliest.{Ended}
use Rattle.loops.specs.StartRows.{AreStarts}
use Rattle.loops.proofs.RanksRise.{starts-sum, rank-first, rank-next, rank-still, rank-rises, starts-rise}
use Rattle.loops.proofs.RowsTellStarts.{row-count}

module _ (net : Net) (laws : Lawful net) (fed : HasInputs net) where
  ended : (t a : ℕ) → Ended net t (earliest net (suc t)) a (ended_at net t a)
  ended t a = ended-at-is net (regular net laws) fed t a

  -- by the next moment those have ended that have by this one, and each that ends then
  ended-next : (t a : ℕ) → Ended net (suc t) (earliest net (suc t)) a (ended_at net (suc t) a)
  ended-next t a = rw (← ended-same net (regular net laws) fed (suc t) a) (ended-by-is net (regular net laws) fed (suc t) a)

  ended-up : (t a : ℕ) → ended_at net t a ≤ ended_at net (suc t) a
  ended-up t a = ⊎_elim
      (λ (fewer : ended_at net (suc t) a < ended_at net t a). absurd (omega (
        arith,
        (ended t a).done (ended_at net (suc t) a) fewer,
        (ended-next t a).going (ended_at net (suc t) a) (omega arith) (omega (arith, (ended t a).within)),
      )))
      (λ (h : ended_at net t a ≤ ended_at net (suc t) a). h)
      (cases_lt (ended_at net (suc t) a) (ended_at net t a))

  ended-more : (t a k : ℕ) → k < count_of (earliest net (suc t)) a → end_of net (earliest net (suc t)) a k ≡ suc t → ended_at net t a < ended_at net (suc t) a
  ended-more t a k there ends =
      let before : ended_at net t a ≤ k = ⊎_elim
      (λ (over : k < ended_at net t a). absurd (omega (arith, (ended t a).done k over, ends)))
      (λ (h : ended_at net t a ≤ k). h)
      (cases_lt k (ended_at net t a)) in
      let after : k < ended_at net (suc t) a = ⊎_elim
      (λ (h : k < ended_at net (suc t) a). h)
      (λ (past : ended_at net (suc t) a ≤ k). absurd (omega (arith, (ended-next t a).going k past there, ends)))
      (cases_lt k (ended_at net (suc t) a)) in
      omega arith

  abbrev all_ended : ℕ → ℕ
  all_ended t = sum_to (ended_at net t) (length net.times)

  all-more : (t : ℕ) → IsEvent net (suc t) → all_ended t < all_ended (suc t)
  all-more t (inl first) = absurd (omega arith)
  all-more t (inr (a, k, there, ends)) =
      let actor : a < length net.times = rw (early_at net (regular net laws) fed (suc t)).admissible.actors at (no_actor (earliest net (suc t)) a k there) in
      sum_to-lt (ended_at net t) (ended_at net (suc t)) (length net.times) a (λ b below. ended-up t b) actor (ended-more t a k there ends)

  -- each event but the first has a firing that ends at it
  events-ended : (t : ℕ) → events_by net t ≤ all_ended t + 1
  events-ended zero = omega (arith, rank-first net)
  events-ended (suc t) = ⊎_elim
      (λ (event : is_event net (suc t) ≡ true). omega (arith, events-ended t, rank-next net t event, all-more t (event-tells net (suc t) event)))
      (λ (none : is_event net (suc t) ≡ false). omega (
        arith,
        events-ended t,
        rank-still net t none,
        sum_to-le (ended_at net t) (ended_at net (suc t)) (length net.times) (λ b below. ended-up t b),
      ))
      (cases_Bool (is_event net (suc t)))

  starts-all : (t : ℕ) → sum_to (count_of (earliest net (suc t))) (length net.times) ≡ starts_by net t
  starts-all t =
      let e : t + 1 ≡ suc t = omega arith in
      rw e (starts-sum (earliest net (suc t)) (length net.times) (early_at net (regular net laws) fed (suc t)).admissible.actors)

  pub events-started : (t : ℕ) → events_by net t ≤ starts_by net t + 1
  events-started t = omega (
    arith,
    events-ended t,
    sum_to-le (ended_at net t) (count_of (earliest net (suc t))) (length net.times) (λ a below. (ended t a).within),
    starts-all t,
  )

  -- rows that have all starts up to a moment
  module _ (until : ℕ) (starts : List (List ℕ)) (have : AreStarts net until starts) where
    in-rows : starts_by net until ≤ sum (map length starts)
    in-rows = omega (
      arith,
      starts-all until,
      starts-sum starts (length net.times) have.rows,
      sum_to-le (count_of (earliest net (suc until))) (count_of starts) (length net.times) (λ a actor. omega (arith, row-count net laws fed until starts have a actor)),
    )

    pub starts-in_rows : (t : ℕ) → t ≤ until → starts_by net t ≤ sum (map length starts)
    starts-in_rows t le = omega (arith, in-rows, starts-rise net laws fed t until le)

    pub events-in_rows : (t : ℕ) → t ≤ until → events_by net t ≤ sum (map length starts) + 1
    events-in_rows t le = omega (arith, in-rows, rank-rises net t until le, events-started until)
