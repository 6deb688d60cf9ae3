-- Later event moments have greater numbers, and no fewer starts up to them.
use Rattle.std.proofs.Common.{◌≡◌, ℕ, zero, suc, ◌+◌, ◌-◌, ◌≤◌, ◌<◌, true, false, if◌then◌else◌, length, inl, inr, ⊎_elim, subst, sym, refl, ap, ◌∙◌, arith}
use Rattle.std.specs.Prelude.{map, sum}
use Rattle.std.proofs.lemmas.Bool.{cases_lt, cases_Bool}
use Rattle.sd_base.specs.Net.{Net}
use Rattle.sd_base.specs.Schedules.{HasInputs, count_of}
use Rattle.sd_base.specs.SelfTimed.{earliest, IsEvent, is_event, events_by, starts_by}
use Rattle.sd_base.specs.Lawful.{Lawful}
use Rattle.sd_base.proofs.LawfulIsRegular.{regular}
use Rattle.sd_base.proofs.FiringsKeepOrder.{no_actor}
use Rattle.sd_base.proofs.EndsDecideCounts.{early_at}
use Rattle.sd_base.proofs.FiringOrdersEnd.{sum_to, sum_to-le}
use Rattle.sd_base.proofs.EndsAreEvents.{is_event-end, is_event-zero, event-tells}
use Rattle.sd_base.proofs.EqualShapesRepeat.{count-rises}
use Rattle.selftimed.specs.Moves.{IsNextEvent}
pub use Rattle.selftimed.proofs.MovesReachNextEvent.{starts-sum}

pub rank-next : (net : Net) (t : ℕ) → is_event net (suc t) ≡ true → events_by net (suc t) ≡ events_by net t + 1
unfolding events_by
rank-next net t event = ap (λ b. events_by net t + (if b then 1 else 0)) event

pub rank-still : (net : Net) (t : ℕ) → is_event net (suc t) ≡ false → events_by net (suc t) ≡ events_by net t
unfolding events_by
rank-still net t event = let e : events_by net t + (if is_event net (suc t) then 1 else 0) ≡ events_by net t + 0 = ap (λ b. events_by net t + (if b then 1 else 0)) event in omega arith

-- the number of the first event moment
pub rank-first : (net : Net) → events_by net 0 ≡ 1
unfolding events_by
rank-first net = refl

rank-up : (net : Net) (t : ℕ) → events_by net t ≤ events_by net (suc t)
rank-up net t = ⊎_elim
    (λ (event : is_event net (suc t) ≡ true). omega (arith, rank-next net t event))
    (λ (none : is_event net (suc t) ≡ false). omega (arith, rank-still net t none))
    (cases_Bool (is_event net (suc t)))

pub rank-rises : (net : Net) (t u : ℕ) → t ≤ u → events_by net t ≤ events_by net u
rank-rises net t zero le = let e : t ≡ 0 = omega arith in rw e (omega arith)
rank-rises net t (suc u) le = ⊎_elim
    (λ (less : t < suc u). omega (arith, rank-rises net t u (omega arith), rank-up net u))
    (λ (last : suc u ≤ t). let e : t ≡ suc u = omega arith in rw e (omega arith))
    (cases_lt t (suc u))

module _ (net : Net) (laws : Lawful net) (fed : HasInputs net) where
  pub event-test : (t : ℕ) → IsEvent net t → is_event net t ≡ true
  event-test t (inl first) = subst (λ (x : ℕ). is_event net x ≡ true) (sym first) (is_event-zero net)
  event-test t (inr (a, k, there, ends)) =
      let actor : a < length net.times = rw (early_at net (regular net laws) fed t).admissible.actors at (no_actor (earliest net t) a k there) in
      is_event-end net t a k actor there ends

  no-event : (t : ℕ) → (IsEvent net t → ⊥) → is_event net t ≡ false
  no-event t quiet = ⊎_elim
      (λ (event : is_event net t ≡ true). absurd (quiet (event-tells net t event)))
      (λ (none : is_event net t ≡ false). none)
      (cases_Bool (is_event net t))

  -- a later event has a greater number
  pub rank-grows : (t u : ℕ) → t < u → IsEvent net u → events_by net t < events_by net u
  rank-grows t zero less event = absurd (omega arith)
  rank-grows t (suc u) less event = omega (arith, rank-next net u (event-test (suc u) event), rank-rises net t u (omega arith))

  -- an event with a number that is no greater is no later
  pub rank-orders : (t u : ℕ) → IsEvent net t → events_by net t ≤ events_by net u → t ≤ u
  rank-orders t u event le = ⊎_elim
      (λ (later : u < t). absurd (omega (arith, rank-grows u t later event)))
      (λ (h : t ≤ u). h) (cases_lt u t)

  still : (m u d : ℕ) → ((x : ℕ) → m < x → x < u → IsEvent net x → ⊥) → d + m < u → events_by net (d + m) ≡ events_by net m
  still m u zero quiet below = let e : 0 + m ≡ m = omega arith in rw e refl
  still m u (suc d) quiet below =
      let e : suc d + m ≡ suc (d + m) = omega arith in
      rw e (rank-still net (d + m) (no-event (suc (d + m)) (quiet (suc (d + m)) (omega arith) (omega arith))) ∙ still m u d quiet (omega arith))

  -- the next event has the next number
  pub rank-after : (m u : ℕ) → IsNextEvent net m u → events_by net u ≡ events_by net m + 1
  rank-after m zero next = absurd (let later : m < 0 = next.later in omega arith)
  rank-after m (suc u) next =
      let later : m < suc u = next.later in
      let back : (u - m) + m ≡ u = omega arith in
      let quiet : events_by net u ≡ events_by net m = subst (λ (x : ℕ). events_by net x ≡ events_by net m) back (still m (suc u) (u - m) next.quiet (omega arith)) in
      rank-next net u (event-test (suc u) next.event) ∙ ap (λ (x : ℕ). x + 1) quiet

  -- more moments have no fewer starts
  pub starts-rise : (t u : ℕ) → t ≤ u → starts_by net t ≤ starts_by net u
  starts-rise t u le =
      let mine : sum_to (count_of (earliest net (t + 1))) (length net.times) ≡ sum (map length (earliest net (t + 1))) = starts-sum (earliest net (t + 1)) (length net.times) (early_at net (regular net laws) fed (t + 1)).admissible.actors in
      let other : sum_to (count_of (earliest net (u + 1))) (length net.times) ≡ sum (map length (earliest net (u + 1))) = starts-sum (earliest net (u + 1)) (length net.times) (early_at net (regular net laws) fed (u + 1)).admissible.actors in
      let rise : sum_to (count_of (earliest net (t + 1))) (length net.times) ≤ sum_to (count_of (earliest net (u + 1))) (length net.times) =
      sum_to-le (count_of (earliest net (t + 1))) (count_of (earliest net (u + 1))) (length net.times) (λ a actor. count-rises net (regular net laws) fed (t + 1) (u + 1) (omega arith) a) in
      omega arith
