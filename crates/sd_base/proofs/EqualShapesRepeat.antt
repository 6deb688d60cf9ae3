-- After equal shapes self-timed execution goes on alike.
use Rattle.std.proofs.Common.{◌≡◌, ℕ, zero, suc, ◌+◌, ◌-◌, ◌≤◌, ◌<◌, length, inl, inr, ⊎_elim, sym, ap, ◌∙◌, arith}
use Rattle.std.proofs.lemmas.Bool.{cases_lt}
use Rattle.sd_base.specs.Net.{Net, channel_at, total}
use Rattle.sd_base.specs.Schedules.{Needs, Lacks, Schedule, count_of, start_of, end_of, HasInputs}
use Rattle.sd_base.specs.SelfTimed.{ended_by, earliest, IsEvent, shape_of, shape_at}
use Rattle.sd_base.specs.Futures.{Repeats}
use Rattle.sd_base.proofs.LawfulIsRegular.{Wired, Regular}
use Rattle.sd_base.proofs.FiringsKeepOrder.{is_actor}
use Rattle.sd_base.proofs.NextMomentIsEarliest.{Ended, Able, Full, Extended}
use Rattle.sd_base.proofs.EarliestExists.{extended-is}
use Rattle.sd_base.proofs.EndsDecideCounts.{decided, early_at, ended_at, ended-by-is, ended-at-is, ended-same, able-at, full-at, past_none}
use Rattle.sd_base.proofs.RoundsKeepTokens.{Whole, made-shift, taken-shift, needs-shift, time-shift}
use Rattle.sd_base.proofs.StartsMeetEnds.{earliest-within}
use Rattle.sd_base.proofs.EqualShapesSpanTurns.{SameShape, same-shape, Shifted, between, same-shifted, same-whole, shifted-shape}

-- one moment in which s, of which e firings had ended, goes on to u, of which f have
pub record Step (net : Net) (x : ℕ) (s u : Schedule) (e f : ℕ → ℕ) : Type 0 where
  pub before : (a : ℕ) → Ended net x s a (e a)
  pub now : (a : ℕ) → Ended net (suc x) s a (f a)
  pub longer : (a : ℕ) → count_of s a ≤ count_of u a
  pub kept : (a k : ℕ) → k < count_of s a → start_of u a k ≡ start_of s a k
  pub added : (a k : ℕ) → count_of s a ≤ k → k < count_of u a → start_of u a k ≡ suc x
  pub able : Able net f (count_of u)
  pub full : Full net f (count_of u)
  pub past : (a : ℕ) → length net.times ≤ a → count_of u a ≡ 0

pub shape-read : (net : Net) (x : ℕ) → shape_at net x ≡ shape_of net x (earliest net (suc x))
shape-read net x = let e : x + 1 ≡ suc x = omega arith in ap (λ (n : ℕ). shape_of net x (earliest net n)) e

-- what has ended stays so
ended-grows : (net : Net) (x : ℕ) (s u : Schedule) (e f : ℕ → ℕ) → Step net x s u e f → (a : ℕ) → e a ≤ f a
ended-grows net x s u e f step a = ⊎_elim
    (λ (less : f a < e a). absurd (
    let within : e a ≤ count_of s a = (step.before a).within in
    let done : end_of net s a (f a) ≤ x = (step.before a).done (f a) less in
    let going : suc x < end_of net s a (f a) = (step.now a).going (f a) (omega arith) (omega arith) in omega arith))
    (λ (h : e a ≤ f a). h) (cases_lt (f a) (e a))

module _ (net : Net) (wired : Wired net) (v base : ℕ → ℕ) (whole : Whole net v) (r t : ℕ) (s u next_s next_u : Schedule) (e f next_e next_f : ℕ → ℕ)
    (one : Step net r s next_s e next_e) (other : Step net t u next_u f next_f) (shifted : Shifted net v base r t s u e f) where
  -- as many of the running firings end
  step-ended : (a : ℕ) → next_f a ≡ next_e a + v a
  step-ended a = ⊎_elim
      (λ (behind : next_f a < next_e a + v a). absurd (
      let grown : f a ≤ next_f a = ended-grows net t u next_u f next_f other a in
      let k : ℕ = next_f a - v a in
      let place : k + v a ≡ next_f a = omega (arith, shifted.ended a) in
      let within : next_e a ≤ count_of s a = (one.now a).within in
      let ends : end_of net u a (k + v a) + r ≡ end_of net s a k + t = shifted.ends a k (omega (arith, shifted.ended a, shifted.since a)) (omega arith) in
      let mine : end_of net u a (next_f a) + r ≡ end_of net s a k + t = rw place at ends in
      let done : end_of net s a k ≤ suc r = (one.now a).done k (omega arith) in
      let going : suc t < end_of net u a (next_f a) = (other.now a).going (next_f a) (omega arith) (omega (arith, shifted.counts a)) in
      omega arith))
      (λ (h : next_e a + v a ≤ next_f a). ⊎_elim
      (λ (ahead : next_e a + v a < next_f a). absurd (
      let grown : e a ≤ next_e a = ended-grows net r s next_s e next_e one a in
      let within : next_f a ≤ count_of u a = (other.now a).within in
      let ends : end_of net u a (next_e a + v a) + r ≡ end_of net s a (next_e a) + t = shifted.ends a (next_e a) (omega (arith, shifted.since a)) (omega (arith, shifted.counts a)) in
      let done : end_of net u a (next_e a + v a) ≤ suc t = (other.now a).done (next_e a + v a) ahead in
      let going : suc r < end_of net s a (next_e a) = (one.now a).going (next_e a) (omega arith) (omega (arith, shifted.counts a)) in
      omega arith))
      (λ (no : next_f a ≤ next_e a + v a). omega arith)
      (cases_lt (next_e a + v a) (next_f a)))
      (cases_lt (next_f a) (next_e a + v a))

  moved : ℕ → ℕ
  moved a = count_of next_s a + v a

  moved-able : Able net next_f moved
  unfolding moved
  moved-able = record {
    enough = λ i place.
        let source : ℕ = (channel_at net i).source in
        let target : ℕ = (channel_at net i).target in
        let enough : total (channel_at net i).taken (count_of next_s target) ≤ (channel_at net i).tokens + total (channel_at net i).made (next_e source) = one.able.enough i place in
        let kept : total (channel_at net i).made (v source) ≡ total (channel_at net i).taken (v target) = whole.kept i place in
        let makes : total (channel_at net i).made (next_f source) ≡ total (channel_at net i).made (next_e source + v source) = ap (total (channel_at net i).made) (step-ended source) in
        omega (arith, made-shift net v whole i place (next_e source), taken-shift net v whole i place (count_of next_s target));
  }

  moved-full : Full net next_f moved
  unfolding moved
  moved-full a actor =
      let lack : Lacks net next_e a (count_of next_s a) = one.full a actor in
      let i : ℕ = lack.0 in
      let need : Needs (channel_at net lack.0) (count_of next_s a + v (channel_at net lack.0).target) (next_e (channel_at net lack.0).source + v (channel_at net lack.0).source) =
      needs-shift net v whole lack.0 lack.1 (count_of next_s a) (next_e (channel_at net lack.0).source) lack.3 in
      let at_source : Needs (channel_at net lack.0) (count_of next_s a + v (channel_at net lack.0).target) (next_f (channel_at net lack.0).source) = rw (step-ended (channel_at net lack.0).source) need in
      (lack.0, lack.1, lack.2, rw lack.2 at at_source)

  step-counts : (a : ℕ) → count_of next_u a ≡ count_of next_s a + v a
  unfolding moved
  step-counts a = ⊎_elim
      (λ (actor : a < length net.times). decided net next_f (count_of next_u) moved other.able other.full moved-able moved-full a actor)
      (λ (none : length net.times ≤ a). omega (arith, one.past a none, other.past a none, other.longer a, shifted.counts a))
      (cases_lt a (length net.times))

  step-actor : (a k : ℕ) → k < count_of next_s a → a < length net.times
  step-actor a k below = ⊎_elim
      (λ (actor : a < length net.times). actor)
      (λ (none : length net.times ≤ a). absurd (omega (arith, one.past a none)))
      (cases_lt a (length net.times))

  step-ends : (a k : ℕ) → base a ≤ k → k < count_of next_s a → end_of net next_u a (k + v a) + suc r ≡ end_of net next_s a k + suc t
  step-ends a k from below = ⊎_elim
      (λ (old : k < count_of s a).
      let ends : end_of net u a (k + v a) + r ≡ end_of net s a k + t = shifted.ends a k from old in
      omega (arith, one.kept a k old, other.kept a (k + v a) (omega (arith, shifted.counts a))))
      (λ (new : count_of s a ≤ k).
      omega (
        arith,
        one.added a k new below,
        other.added a (k + v a) (omega (arith, shifted.counts a)) (omega (arith, step-counts a)),
        time-shift net v whole a k (step-actor a k below),
      ))
      (cases_lt k (count_of s a))

  pub shifted_step : Shifted net v base (suc r) (suc t) next_s next_u next_e next_f
  shifted_step = record {
    since = λ a. omega (arith, shifted.since a, ended-grows net r s next_s e next_e one a);
    counts = step-counts;
    ended = step-ended;
    ends = step-ends;
  }

module _ (net : Net) (reg : Regular net) (fed : HasInputs net) where
  -- the earliest schedule goes on by such steps
  next_is : (x : ℕ) → Step net x (earliest net (suc x)) (earliest net (suc (suc x))) (ended_at net x) (ended_at net (suc x))
  next_is x =
      let ext : Extended net (suc x) (ended_by net (suc x) (earliest net (suc x))) (earliest net (suc x)) (earliest net (suc (suc x))) = extended-is net reg fed (suc x) in
      record {
        before = λ a. ended-at-is net reg fed x a;
        now = λ a. rw (sym (ended-same net reg fed (suc x) a)) (ended-by-is net reg fed (suc x) a);
        longer = ext.longer;
        kept = ext.kept;
        added = ext.added;
        able = able-at net reg fed (suc x);
        full = full-at net reg fed (suc x);
        past = λ a none. past_none net reg fed (suc (suc x)) a none;
      }

  pub count-rises : (x y : ℕ) → x ≤ y → (a : ℕ) → count_of (earliest net x) a ≤ count_of (earliest net y) a
  count-rises x y le a = ⊎_elim
      (λ (less : count_of (earliest net y) a < count_of (earliest net x) a). absurd (
      let there : count_of (earliest net y) a < count_of (earliest net y) a = (earliest-within net x y (earliest net x) (earliest net y) (early_at net reg fed x) (early_at net reg fed y) le a (count_of (earliest net y) a) less).0 in omega arith))
      (λ (h : count_of (earliest net x) a ≤ count_of (earliest net y) a). h)
      (cases_lt (count_of (earliest net y) a) (count_of (earliest net x) a))

  -- two moments after which the same happens, by actor v firings further on
  abbrev pub Alike : (v : ℕ → ℕ) (base : ℕ → ℕ) (x y : ℕ) → Type 0
  Alike v base x y = Shifted net v base x y (earliest net (suc x)) (earliest net (suc y)) (ended_at net x) (ended_at net y)

  pub futures : (v base : ℕ → ℕ) (r t : ℕ) → Whole net v → Alike v base r t → (d : ℕ) → Alike v base (d + r) (d + t)
  futures v base r t whole alike zero =
      let here : 0 + r ≡ r = omega arith in
      let there : 0 + t ≡ t = omega arith in
      rw here (rw there alike)
  futures v base r t whole alike (suc d) =
      let here : suc d + r ≡ suc (d + r) = omega arith in
      let there : suc d + t ≡ suc (d + t) = omega arith in
      rw here (rw there (
      shifted_step net reg.wired v base whole (d + r) (d + t) (earliest net (suc (d + r))) (earliest net (suc (d + t))) (earliest net (suc (suc (d + r)))) (earliest net (suc (suc (d + t))))
      (ended_at net (d + r)) (ended_at net (d + t)) (ended_at net (suc (d + r))) (ended_at net (suc (d + t)))
      (next_is (d + r)) (next_is (d + t)) (futures v base r t whole alike d)
      ))

  module _ (v : ℕ → ℕ) (r t : ℕ) (whole : Whole net v) (alike : Alike v (ended_at net r) r t) where
    at_distance : (d : ℕ) → Alike v (ended_at net r) (d + r) (d + t)
    at_distance d = futures v (ended_at net r) r t whole alike d

    -- who ends after a moment hasn't ended by then
    past-base : (d a k : ℕ) → k < count_of (earliest net (suc (d + r))) a → r < end_of net (earliest net (suc (d + r))) a k → ended_at net r a ≤ k
    past-base d a k there late = ⊎_elim
        (λ (early : k < ended_at net r a). absurd (
        let within : ended_at net r a ≤ count_of (earliest net (suc r)) a = (ended-at-is net reg fed r a).within in
        let done : end_of net (earliest net (suc r)) a k ≤ r = (ended-at-is net reg fed r a).done k early in
        let same : start_of (earliest net (suc (d + r))) a k ≡ start_of (earliest net (suc r)) a k =
        (earliest-within net (suc r) (suc (d + r)) (earliest net (suc r)) (earliest net (suc (d + r))) (early_at net reg fed (suc r)) (early_at net reg fed (suc (d + r))) (omega arith) a k (omega arith)).1 in
        omega arith))
        (λ (h : ended_at net r a ≤ k). h) (cases_lt k (ended_at net r a))

    repeat-start : (d a k : ℕ) → k < count_of (earliest net (suc (d + r))) a → r < end_of net (earliest net (suc (d + r))) a k →
        start_of (earliest net (suc (d + t))) a (k + v a) + r ≡ start_of (earliest net (suc (d + r))) a k + t
    repeat-start d a k there late =
        let ends : end_of net (earliest net (suc (d + t))) a (k + v a) + (d + r) ≡ end_of net (earliest net (suc (d + r))) a k + (d + t) = (at_distance d).ends a k (past-base d a k there late) there in
        let actor : a < length net.times = is_actor net (earliest net (suc (d + r))) a k (early_at net reg fed (suc (d + r))).admissible there in
        omega (arith, time-shift net v whole a k actor)

    event-on : (d : ℕ) → IsEvent net (suc (d + r)) → IsEvent net (suc (d + t))
    event-on d (inl none) = absurd (omega arith)
    event-on d (inr (a, k, there, ends)) =
        let from : ended_at net r a ≤ k = past-base d a k there (omega (arith, ends)) in
        let on : end_of net (earliest net (suc (d + t))) a (k + v a) + (d + r) ≡ end_of net (earliest net (suc (d + r))) a k + (d + t) = (at_distance d).ends a k from there in
        inr (a, k + v a, omega (arith, there, (at_distance d).counts a), omega (arith, ends))

    event-back : (d : ℕ) → IsEvent net (suc (d + t)) → IsEvent net (suc (d + r))
    event-back d (inl none) = absurd (omega arith)
    event-back d (inr (a, k, there, ends)) =
        let late : ended_at net (d + t) a ≤ k = ⊎_elim
        (λ (early : k < ended_at net (d + t) a). absurd (
        let done : end_of net (earliest net (suc (d + t))) a k ≤ d + t = (ended-at-is net reg fed (d + t) a).done k early in omega (arith, ends)))
        (λ (h : ended_at net (d + t) a ≤ k). h) (cases_lt k (ended_at net (d + t) a)) in
        let place : (k - v a) + v a ≡ k = omega (arith, (at_distance d).ended a) in
        let here : k - v a < count_of (earliest net (suc (d + r))) a = omega (arith, there, (at_distance d).counts a) in
        let on : end_of net (earliest net (suc (d + t))) a ((k - v a) + v a) + (d + r) ≡ end_of net (earliest net (suc (d + r))) a (k - v a) + (d + t) =
        (at_distance d).ends a (k - v a) (omega (arith, (at_distance d).since a, (at_distance d).ended a)) here in
        let mine : end_of net (earliest net (suc (d + t))) a k + (d + r) ≡ end_of net (earliest net (suc (d + r))) a (k - v a) + (d + t) = rw place at on in
        inr (a, k - v a, here, omega (arith, ends))

    repeat-shape : (d : ℕ) → shape_of net (d + r) (earliest net (suc (d + r))) ≡ shape_of net (d + t) (earliest net (suc (d + t)))
    repeat-shape d = shifted-shape net v whole (ended_at net r) (d + r) (d + t) (earliest net (suc (d + r))) (earliest net (suc (d + t))) (at_distance d)

    next-of : (x d : ℕ) → x + d + 1 ≡ suc (d + x)
    next-of x d = omega arith

    pub repeats : Repeats net r t v
    repeats = record {
      counts = λ d a. rw (next-of t d) (rw (next-of r d) ((at_distance d).counts a));
      starts = λ d a k. rw (next-of t d) (rw (next-of r d) (repeat-start d a k));
      events = λ d some.
          let here : r + d ≡ suc ((d - 1) + r) = omega arith in
          let there : t + d ≡ suc ((d - 1) + t) = omega arith in
          rw here (rw there (event-on (d - 1), event-back (d - 1)));
      shapes = λ d.
          let here : r + d ≡ d + r = omega arith in
          let there : t + d ≡ d + t = omega arith in
          rw here (rw there (shape-read net (d + r) ∙ (repeat-shape d ∙ sym (shape-read net (d + t)))));
    }

  -- moments with equal shapes
  module _ (r t : ℕ) (later : r < t) (same : shape_at net r ≡ shape_at net t) where
    pub since-then : ℕ → ℕ
    since-then = between (earliest net (suc r)) (earliest net (suc t))

    alike-shapes : SameShape net r t (earliest net (suc r)) (earliest net (suc t)) (ended_at net r) (ended_at net t)
    alike-shapes = same-shape net r t (earliest net (suc r)) (earliest net (suc t)) (able-at net reg fed r) (able-at net reg fed t) (ended-at-is net reg fed r) (ended-at-is net reg fed t) (sym (shape-read net r) ∙ (same ∙ shape-read net t))

    rises : (a : ℕ) → count_of (earliest net (suc r)) a ≤ count_of (earliest net (suc t)) a
    rises = count-rises (suc r) (suc t) (omega arith)

    pub same-alike : Alike since-then (ended_at net r) r t
    unfolding since-then
    same-alike = same-shifted net r t (earliest net (suc r)) (earliest net (suc t)) (ended_at net r) (ended_at net t) reg.wired rises (past_none net reg fed (suc t)) (λ a. (ended-at-is net reg fed r a).within) (λ a. (ended-at-is net reg fed t a).within) alike-shapes

    pub since-whole : Whole net since-then
    unfolding since-then
    since-whole = same-whole net r t (earliest net (suc r)) (earliest net (suc t)) (ended_at net r) (ended_at net t) reg.wired rises (past_none net reg fed (suc t)) (λ a. (ended-at-is net reg fed r a).within) (λ a. (ended-at-is net reg fed t a).within) alike-shapes

    pub equal-futures : Repeats net r t since-then
    equal-futures = repeats since-then r t since-whole same-alike
