-- What follows when a shape comes again: all later ones do, each after the same time and with as many starts.
use Rattle.std.proofs.Common.{◌≡◌, ◌≢◌, ℕ, zero, suc, ◌+◌, ◌-◌, ◌*◌, ◌≤◌, ◌<◌, length, ⊎_elim, subst, sym, refl, ap, ◌∙◌, arith}
use Rattle.std.proofs.Math.Nat.{le-mul_of_pos_right}
use Rattle.std.proofs.lemmas.Bool.{cases_lt}
use Rattle.sd_base.specs.Net.{Net}
use Rattle.sd_base.specs.Schedules.{HasInputs, count_of}
use Rattle.sd_base.specs.SelfTimed.{earliest, IsEvent, shape_at, starts_by}
use Rattle.sd_base.specs.Lawful.{Lawful}
use Rattle.sd_base.specs.Futures.{Repeats}
use Rattle.sd_base.proofs.LawfulIsRegular.{regular}
use Rattle.sd_base.proofs.EndsDecideCounts.{early_at}
use Rattle.sd_base.proofs.FiringOrdersEnd.{sum_to, sum_to-le}
use Rattle.sd_base.proofs.EqualShapesRepeat.{since-then, equal-futures}
use Rattle.selftimed.proofs.MovesReachNextEvent.{starts-sum}

sum_to-add : (f g h : ℕ → ℕ) (n : ℕ) → ((a : ℕ) → h a ≡ f a + g a) → sum_to h n ≡ sum_to f n + sum_to g n
unfolding sum_to
sum_to-add f g h zero each = refl
sum_to-add f g h (suc n) each = omega (arith, sum_to-add f g h n each, each n)

module _ (net : Net) (laws : Lawful net) (fed : HasInputs net) where
  starts-are : (t : ℕ) → sum_to (count_of (earliest net (t + 1))) (length net.times) ≡ starts_by net t
  starts-are t = starts-sum (earliest net (t + 1)) (length net.times) (early_at net (regular net laws) fed (t + 1)).admissible.actors

  module _ (t u : ℕ) (less : t < u) (same : shape_at net t ≡ shape_at net u) where
    again : Repeats net t u (since-then net (regular net laws) fed t u less same)
    again = equal-futures net (regular net laws) fed t u less same

    abbrev later : ℕ → ℕ
    later x = x + (u - t)

    pub again-shape : (x : ℕ) → t ≤ x → shape_at net (later x) ≡ shape_at net x
    again-shape x from =
        let here : t + (x - t) ≡ x = omega arith in
        let there : u + (x - t) ≡ later x = omega arith in
        sym (subst (λ (y : ℕ). shape_at net x ≡ shape_at net y) there (subst (λ (y : ℕ). shape_at net y ≡ shape_at net (u + (x - t))) here (again.shapes (x - t))))

    pub again-event : (x : ℕ) → t < x → IsEvent net x → IsEvent net (later x)
    again-event x from event =
        let here : t + (x - t) ≡ x = omega arith in
        let there : u + (x - t) ≡ later x = omega arith in
        subst (IsEvent net) there ((again.events (x - t) (omega arith)).0 (subst (IsEvent net) (sym here) event))

    pub again-back : (x : ℕ) → t < x → IsEvent net (later x) → IsEvent net x
    again-back x from event =
        let here : t + (x - t) ≡ x = omega arith in
        let there : u + (x - t) ≡ later x = omega arith in
        subst (IsEvent net) here ((again.events (x - t) (omega arith)).1 (subst (IsEvent net) (sym there) event))

    pub again-starts : (x : ℕ) → t ≤ x → starts_by net (later x) ≤ starts_by net x + starts_by net u
    again-starts x from =
        let v : ℕ → ℕ = since-then net (regular net laws) fed t u less same in
        let here : t + (x - t) ≡ x = omega arith in
        let there : u + (x - t) ≡ later x = omega arith in
        let counts : (a : ℕ) → count_of (earliest net (later x + 1)) a ≡ count_of (earliest net (x + 1)) a + v a =
        λ a. subst (λ (y : ℕ). count_of (earliest net (y + 1)) a ≡ count_of (earliest net (x + 1)) a + v a) there (subst (λ (y : ℕ). count_of (earliest net (u + (x - t) + 1)) a ≡ count_of (earliest net (y + 1)) a + v a) here (again.counts (x - t) a)) in
        let start : u + 0 + 1 ≡ u + 1 = omega arith in
        let few : (a : ℕ) → a < length net.times → v a ≤ count_of (earliest net (u + 1)) a =
        λ a actor. subst (λ (y : ℕ). v a ≤ count_of (earliest net y) a) start (omega (arith, again.counts 0 a)) in
        omega (
          arith,
          sum_to-add (count_of (earliest net (x + 1))) v (count_of (earliest net (later x + 1))) (length net.times) counts,
          sum_to-le v (count_of (earliest net (u + 1))) (length net.times) few,
          starts-are (later x),
          starts-are x,
          starts-are u,
        )

    -- the same after any number of times
    pub many-shape : (n x : ℕ) → t ≤ x → shape_at net (x + n * (u - t)) ≡ shape_at net x
    many-shape zero x from = let e : x + 0 * (u - t) ≡ x = omega arith in ap (shape_at net) e
    many-shape (suc n) x from =
        let e : x + suc n * (u - t) ≡ later (x + n * (u - t)) = omega arith in
        ap (shape_at net) e ∙ (again-shape (x + n * (u - t)) (omega arith) ∙ many-shape n x from)

    pub many-event : (n x : ℕ) → t < x → IsEvent net x → IsEvent net (x + n * (u - t))
    many-event zero x from event = let e : x + 0 * (u - t) ≡ x = omega arith in subst (IsEvent net) (sym e) event
    many-event (suc n) x from event =
        let e : x + suc n * (u - t) ≡ later (x + n * (u - t)) = omega arith in
        subst (IsEvent net) (sym e) (again-event (x + n * (u - t)) (omega arith) (many-event n x from event))

    pub many-back : (n x : ℕ) → t < x → IsEvent net (x + n * (u - t)) → IsEvent net x
    many-back zero x from event = let e : x + 0 * (u - t) ≡ x = omega arith in subst (IsEvent net) e event
    many-back (suc n) x from event =
        let e : x + suc n * (u - t) ≡ later (x + n * (u - t)) = omega arith in
        many-back n x from (again-back (x + n * (u - t)) (omega arith) (subst (IsEvent net) e event))

  -- an event i whose shape first comes again p later, and two events t and u of equal shapes: t's shape stands p later
  -- too, and u is no sooner
  module _ (i p : ℕ) (some : 1 ≤ p) (start : IsEvent net i) (end : IsEvent net (i + p)) (same : shape_at net i ≡ shape_at net (i + p))
      (first : (x : ℕ) → IsEvent net x → i < x → x < i + p → shape_at net x ≢ shape_at net i)
      (t u : ℕ) (less : t < u) (here : IsEvent net t) (there : IsEvent net u) (equal : shape_at net t ≡ shape_at net u) where
    forth : i < i + p
    forth = omega arith

    step : i + p - i ≡ p
    step = omega arith

    shape-on : (n x : ℕ) → i ≤ x → shape_at net (x + n * p) ≡ shape_at net x
    shape-on n x from = subst (λ (d : ℕ). shape_at net (x + n * d) ≡ shape_at net x) step (many-shape i (i + p) forth same n x from)

    event-on : (n x : ℕ) → i < x → IsEvent net x → IsEvent net (x + n * p)
    event-on n x from event = subst (λ (d : ℕ). IsEvent net (x + n * d)) step (many-event i (i + p) forth same n x from event)

    event-off : (n x : ℕ) → i < x → IsEvent net (x + n * p) → IsEvent net x
    event-off n x from event = many-back i (i + p) forth same n x from (subst (λ (d : ℕ). IsEvent net (x + n * d)) (sym step) event)

    abbrev d : ℕ
    d = u - t

    -- far enough on, past i
    far : i < u + i * (u - t)
    far = far-on i (u - t) u (omega arith) (omega arith)
      where
        far-on : (n e v : ℕ) → 1 ≤ e → 1 ≤ v → n < v + n * e
        far-on n e v one two = let grows : n ≤ n * e = le-mul_of_pos_right n (omega arith) in omega arith

    pub apart-event : IsEvent net (t + p)
    apart-event =
        let up : IsEvent net (u + i * (u - t)) = many-event t u less equal i u less there in
        let on : IsEvent net (u + i * (u - t) + 1 * p) = event-on 1 (u + i * (u - t)) far up in
        let e : u + i * (u - t) + 1 * p ≡ t + p + suc i * (u - t) = omega arith in
        many-back t u less equal (suc i) (t + p) (omega arith) (subst (IsEvent net) e on)

    pub apart-same : shape_at net t ≡ shape_at net (t + p)
    apart-same =
        let up : shape_at net (t + suc i * (u - t)) ≡ shape_at net t = many-shape t u less equal (suc i) t (omega arith) in
        let e : t + suc i * (u - t) ≡ u + i * (u - t) = omega arith in
        let on : shape_at net (t + suc i * (u - t) + 1 * p) ≡ shape_at net (t + suc i * (u - t)) = shape-on 1 (t + suc i * (u - t)) (omega (arith, far, e)) in
        let o : t + suc i * (u - t) + 1 * p ≡ t + p + suc i * (u - t) = omega arith in
        let back : shape_at net (t + p + suc i * (u - t)) ≡ shape_at net (t + p) = many-shape t u less equal (suc i) (t + p) (omega arith) in
        sym up ∙ (sym on ∙ (ap (shape_at net) o ∙ back))

    -- i's shape would come again too soon
    soon-event : IsEvent net (i + (u - t))
    soon-event =
        let grows : t ≤ t * p = le-mul_of_pos_right t (omega arith) in
        let up : IsEvent net (i + p + t * p) = event-on t (i + p) forth end in
        let on : IsEvent net (i + p + t * p + 1 * (u - t)) = many-event t u less equal 1 (i + p + t * p) (omega arith) up in
        let e : i + p + t * p + 1 * (u - t) ≡ i + (u - t) + suc t * p = omega arith in
        event-off (suc t) (i + (u - t)) (omega arith) (subst (IsEvent net) e on)

    soon-same : shape_at net (i + (u - t)) ≡ shape_at net i
    soon-same =
        let grows : t ≤ t * p = le-mul_of_pos_right t (omega arith) in
        let on : shape_at net (i + t * p + 1 * (u - t)) ≡ shape_at net (i + t * p) = many-shape t u less equal 1 (i + t * p) (omega arith) in
        let e : i + t * p + 1 * (u - t) ≡ i + (u - t) + t * p = omega arith in
        sym (shape-on t (i + (u - t)) (omega arith)) ∙ (sym (ap (shape_at net) e) ∙ (on ∙ shape-on t i (omega arith)))

    pub apart-least : t + p ≤ u
    apart-least = ⊎_elim
        (λ (h : u < t + p). absurd (first (i + (u - t)) soon-event (omega arith) (omega arith) soon-same))
        (λ (h : t + p ≤ u). h)
        (cases_lt u (t + p))
