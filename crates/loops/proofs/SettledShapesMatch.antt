-- Where equal shapes stand a period apart, the same stood at each moment from which on all firings are alike, and at no other.
use Rattle.std.proofs.Common.{◌≡◌, ℕ, suc, ◌+◌, ◌-◌, ◌≤◌, ◌<◌, ◌⊎◌, length, inl, inr, ⊎_elim, sym, ◌∙◌, arith}
use Rattle.std.proofs.lemmas.Bool.{cases_lt}
use Rattle.sd_base.specs.Net.{Net}
use Rattle.sd_base.specs.Schedules.{Schedule, count_of, start_of, end_of, time_of, HasInputs}
use Rattle.sd_base.specs.SelfTimed.{earliest, shape_at}
use Rattle.sd_base.specs.Lawful.{Lawful}
use Rattle.sd_base.proofs.LawfulIsRegular.{regular}
use Rattle.sd_base.proofs.FiringsKeepOrder.{is_actor}
use Rattle.sd_base.proofs.NextMomentIsEarliest.{Ended}
use Rattle.sd_base.proofs.RoundsKeepTokens.{Whole, time-shift}
use Rattle.sd_base.proofs.StartsMeetEnds.{earliest-within}
use Rattle.sd_base.proofs.EqualShapesSpanTurns.{shifted-shape}
use Rattle.sd_base.proofs.EndsDecideCounts.{early_at, ended_at, ended-at-is}
use Rattle.sd_base.proofs.EqualShapesRepeat.{Alike, count-rises, since-then, since-whole, same-alike, futures, shape-read}
use Rattle.loops.specs.Settling.{IsLike, IsOver, IsSettled}

module _ (net : Net) (laws : Lawful net) (fed : HasInputs net) where
  -- a firing of the earliest schedule that starts by a moment is in the part up to there
  pub started-by : (y t a k : ℕ) → y ≤ t → k < count_of (earliest net (suc t)) a → start_of (earliest net (suc t)) a k ≤ y → k < count_of (earliest net (suc y)) a
  started-by y t a k le there soon =
      ((early_at net (regular net laws) fed (suc y)).least (earliest net (suc t)) (early_at net (regular net laws) fed (suc t)).admissible a k there (omega arith)).0

  -- and has its start there
  pub start-kept : (y t a k : ℕ) → y ≤ t → k < count_of (earliest net (suc y)) a →
      (k < count_of (earliest net (suc t)) a) × (start_of (earliest net (suc t)) a k ≡ start_of (earliest net (suc y)) a k)
  start-kept y t a k le there =
      earliest-within net (suc y) (suc t) (earliest net (suc y)) (earliest net (suc t)) (early_at net (regular net laws) fed (suc y)) (early_at net (regular net laws) fed (suc t)) (omega arith) a k there

  -- so many more firings of each actor have started by t than by r
  module _ (r t : ℕ) (later : r < t) (v : ℕ → ℕ) (whole : Whole net v) (counts-v : (a : ℕ) → count_of (earliest net (suc t)) a ≡ count_of (earliest net (suc r)) a + v a) where
    abbrev all : Schedule
    all = earliest net (suc t)

    actor-of : (a k : ℕ) → k < count_of all a → a < length net.times
    actor-of a k there = is_actor net all a k (early_at net (regular net laws) fed (suc t)).admissible there

    like-end : (a j : ℕ) → j < count_of all a → IsLike all (t - r) v a j → end_of net all a (j - v a) + (t - r) ≡ end_of net all a j
    like-end a j there like =
        let place : (j - v a) + v a ≡ j = omega (arith, like.after) in
        let time : time_of net a ((j - v a) + v a) ≡ time_of net a (j - v a) = time-shift net v whole a (j - v a) (actor-of a j there) in
        let mine : time_of net a j ≡ time_of net a (j - v a) = rw place at time in
        omega (arith, like.apart)

    -- from a moment on all firings are so many after their likes, or over
    module _ (x : ℕ) (before : x ≤ r) (settled : IsSettled net all (t - r) v x) where
      abbrev y : ℕ
      y = x + (t - r)

      abbrev s : Schedule
      s = earliest net (suc x)

      abbrev u : Schedule
      u = earliest net (suc y)

      in-all : (a : ℕ) → count_of all a ≡ count_of (earliest net (suc r)) a + v a
      in-all a = counts-v a

      short : (a : ℕ) → count_of s a ≤ count_of (earliest net (suc r)) a
      short a = count-rises net (regular net laws) fed (suc x) (suc r) (omega arith) a

      counts-least : (a : ℕ) → count_of s a + v a ≤ count_of u a
      counts-least a = ⊎_elim
          (λ (few : count_of u a < count_of s a + v a). absurd (
          let j : ℕ = count_of s a + v a - 1 in
          let there : j < count_of all a = omega (arith, in-all a, short a) in
          let soon : start_of all a j ≤ y = by (count_of s a + v a - 1) few (omega arith) there (settled a (count_of s a + v a - 1) there) in
          omega (arith, started-by y t a (count_of s a + v a - 1) (omega arith) there soon)))
          (λ (h : count_of s a + v a ≤ count_of u a). h)
          (cases_lt (count_of u a) (count_of s a + v a))
        where
          by : (j : ℕ) → count_of u a < count_of s a + v a → j < count_of s a + v a → j < count_of all a → IsLike all (t - r) v a j ⊎ IsOver net all (t - r) v x a j → start_of all a j ≤ y
          by j few below there (inl like) =
              let kept : start_of all a (j - v a) ≡ start_of s a (j - v a) = (start-kept x t a (j - v a) (omega arith) (omega (arith, like.after))).1 in
              let soon : start_of s a (j - v a) < suc x = (early_at net (regular net laws) fed (suc x)).before a (j - v a) (omega (arith, like.after)) in
              omega (arith, like.apart)
          by j few below there (inr over) = omega (arith, over.later)

      counts-most : (a : ℕ) → count_of u a ≤ count_of s a + v a
      counts-most a = ⊎_elim
          (λ (many : count_of s a + v a < count_of u a). absurd (
          let kept = start-kept y t a (count_of s a + v a) (omega arith) many in
          let soon : start_of u a (count_of s a + v a) < suc y = (early_at net (regular net laws) fed (suc y)).before a (count_of s a + v a) many in
          let first : start_of all a (count_of s a + v a - v a) ≤ x = by kept.0 (omega (arith, kept.1)) (settled a (count_of s a + v a) kept.0) in
          let place : count_of s a + v a - v a ≡ count_of s a = omega arith in
          let here : start_of all a (count_of s a) ≤ x = rw place at first in
          omega (arith, started-by x t a (count_of s a) (omega arith) (omega (arith, kept.0)) here)))
          (λ (h : count_of u a ≤ count_of s a + v a). h)
          (cases_lt (count_of s a + v a) (count_of u a))
        where
          by : count_of s a + v a < count_of all a → start_of all a (count_of s a + v a) ≤ y →
              IsLike all (t - r) v a (count_of s a + v a) ⊎ IsOver net all (t - r) v x a (count_of s a + v a) → start_of all a (count_of s a + v a - v a) ≤ x
          by there soon (inl like) = omega (arith, like.apart)
          by there soon (inr over) = omega (arith, over.earlier (omega arith))

      counts : (a : ℕ) → count_of u a ≡ count_of s a + v a
      counts a = omega (arith, counts-least a, counts-most a)

      ended-s : (a : ℕ) → Ended net x s a (ended_at net x a)
      ended-s a = ended-at-is net (regular net laws) fed x a

      ended-u : (a : ℕ) → Ended net y u a (ended_at net y a)
      ended-u a = ended-at-is net (regular net laws) fed y a

      -- an end in a part of the schedule is the one in all of it
      end-s : (a k : ℕ) → k < count_of s a → end_of net all a k ≡ end_of net s a k
      end-s a k there = omega (arith, (start-kept x t a k (omega arith) there).1)

      end-u : (a k : ℕ) → k < count_of u a → end_of net all a k ≡ end_of net u a k
      end-u a k there = omega (arith, (start-kept y t a k (omega arith) there).1)

      in-u : (a k : ℕ) → k < count_of u a → k < count_of all a
      in-u a k there = (start-kept y t a k (omega arith) there).0

      ended-least : (a : ℕ) → ended_at net x a + v a ≤ ended_at net y a
      ended-least a = ⊎_elim
          (λ (few : ended_at net y a < ended_at net x a + v a). absurd (
          let within : ended_at net x a ≤ count_of s a = (ended-s a).within in
          let there : ended_at net x a + v a - 1 < count_of u a = omega (arith, counts a) in
          let going : y < end_of net u a (ended_at net x a + v a - 1) = (ended-u a).going (ended_at net x a + v a - 1) (omega arith) there in
          let soon : end_of net all a (ended_at net x a + v a - 1) ≤ y = by (in-u a (ended_at net x a + v a - 1) there) few (settled a (ended_at net x a + v a - 1) (in-u a (ended_at net x a + v a - 1) there)) in
          omega (arith, end-u a (ended_at net x a + v a - 1) there)))
          (λ (h : ended_at net x a + v a ≤ ended_at net y a). h)
          (cases_lt (ended_at net y a) (ended_at net x a + v a))
        where
          by : ended_at net x a + v a - 1 < count_of all a → ended_at net y a < ended_at net x a + v a →
              IsLike all (t - r) v a (ended_at net x a + v a - 1) ⊎ IsOver net all (t - r) v x a (ended_at net x a + v a - 1) → end_of net all a (ended_at net x a + v a - 1) ≤ y
          by there few (inl like) =
              let within : ended_at net x a ≤ count_of s a = (ended-s a).within in
              let early : ended_at net x a + v a - 1 - v a < ended_at net x a = omega (arith, like.after) in
              let done : end_of net s a (ended_at net x a + v a - 1 - v a) ≤ x = (ended-s a).done (ended_at net x a + v a - 1 - v a) early in
              omega (arith, end-s a (ended_at net x a + v a - 1 - v a) (omega arith), like-end a (ended_at net x a + v a - 1) there like)
          by there few (inr over) = over.later

      ended-most : (a : ℕ) → ended_at net y a ≤ ended_at net x a + v a
      ended-most a = ⊎_elim
          (λ (many : ended_at net x a + v a < ended_at net y a). absurd (
          let within : ended_at net y a ≤ count_of u a = (ended-u a).within in
          let there : ended_at net x a + v a < count_of u a = omega arith in
          let done : end_of net u a (ended_at net x a + v a) ≤ y = (ended-u a).done (ended_at net x a + v a) many in
          let here : ended_at net x a < count_of s a = omega (arith, counts a) in
          let going : x < end_of net s a (ended_at net x a) = (ended-s a).going (ended_at net x a) (omega arith) here in
          let soon : end_of net all a (ended_at net x a + v a - v a) ≤ x =
          by (in-u a (ended_at net x a + v a) there) (omega (arith, end-u a (ended_at net x a + v a) there)) (settled a (ended_at net x a + v a) (in-u a (ended_at net x a + v a) there)) in
          let place : ended_at net x a + v a - v a ≡ ended_at net x a = omega arith in
          let mine : end_of net all a (ended_at net x a) ≤ x = rw place at soon in
          omega (arith, end-s a (ended_at net x a) here)))
          (λ (h : ended_at net y a ≤ ended_at net x a + v a). h)
          (cases_lt (ended_at net x a + v a) (ended_at net y a))
        where
          by : ended_at net x a + v a < count_of all a → end_of net all a (ended_at net x a + v a) ≤ y →
              IsLike all (t - r) v a (ended_at net x a + v a) ⊎ IsOver net all (t - r) v x a (ended_at net x a + v a) → end_of net all a (ended_at net x a + v a - v a) ≤ x
          by there soon (inl like) = omega (arith, like-end a (ended_at net x a + v a) there like)
          by there soon (inr over) = over.earlier (omega arith)

      running-ends : (a k : ℕ) → ended_at net x a ≤ k → k < count_of s a → end_of net u a (k + v a) + x ≡ end_of net s a k + y
      running-ends a k from here =
          let there : k + v a < count_of u a = omega (arith, counts a) in
          let going : x < end_of net s a k = (ended-s a).going k from here in
          let place : k + v a - v a ≡ k = omega arith in
          let ends : end_of net all a (k + v a - v a) + (t - r) ≡ end_of net all a (k + v a) =
          by (in-u a (k + v a) there) (rw place (omega (arith, end-s a k here))) (settled a (k + v a) (in-u a (k + v a) there)) in
          let mine : end_of net all a k + (t - r) ≡ end_of net all a (k + v a) = rw place at ends in
          omega (arith, end-s a k here, end-u a (k + v a) there)
        where
          by : k + v a < count_of all a → x < end_of net all a (k + v a - v a) → IsLike all (t - r) v a (k + v a) ⊎ IsOver net all (t - r) v x a (k + v a) →
              end_of net all a (k + v a - v a) + (t - r) ≡ end_of net all a (k + v a)
          by there going (inl like) = like-end a (k + v a) there like
          by there going (inr over) = absurd (omega (arith, over.earlier (omega arith)))

      pub shapes-same : shape_at net x ≡ shape_at net y
      shapes-same = shape-read net x ∙ (shifted-shape net v whole (ended_at net x) x y s u (record {
        since = λ a. omega arith;
        counts = counts;
        ended = λ a. omega (arith, ended-least a, ended-most a);
        ends = running-ends;
      }) ∙ sym (shape-read net y))

  module _ (r t : ℕ) (later : r < t) (same : shape_at net r ≡ shape_at net t) where
    pub more : ℕ → ℕ
    more = since-then net (regular net laws) fed r t later same

    whole : Whole net more
    unfolding more
    whole = since-whole net (regular net laws) fed r t later same

    alike : Alike net (regular net laws) fed more (ended_at net r) r t
    unfolding more
    alike = same-alike net (regular net laws) fed r t later same

    pub more-counts : (a : ℕ) → count_of (earliest net (suc t)) a ≡ count_of (earliest net (suc r)) a + more a
    more-counts a = alike.counts a

    abbrev every : Schedule
    every = earliest net (suc t)

    actor-at : (a k : ℕ) → k < count_of every a → a < length net.times
    actor-at a k there = is_actor net every a k (early_at net (regular net laws) fed (suc t)).admissible there

    pub settled-same : (x : ℕ) → x ≤ r → IsSettled net every (t - r) more x → shape_at net x ≡ shape_at net (x + (t - r))
    settled-same x before settled = shapes-same r t later more whole more-counts x before settled

    -- where equal shapes stand, all firings are alike or over
    module _ (x : ℕ) (before : x ≤ r) (alike_x : shape_at net x ≡ shape_at net (x + (t - r))) where
      less : x < x + (t - r)
      less = omega arith

      since : ℕ → ℕ
      since = since-then net (regular net laws) fed x (x + (t - r)) less alike_x

      far : Alike net (regular net laws) fed since (ended_at net x) ((r - x) + x) ((r - x) + (x + (t - r)))
      unfolding since
      far = futures net (regular net laws) fed since (ended_at net x) x (x + (t - r)) (since-whole net (regular net laws) fed x (x + (t - r)) less alike_x) (same-alike net (regular net laws) fed x (x + (t - r)) less alike_x) (r - x)

      -- from the moment to the later one every goes on as before
      at : Alike net (regular net laws) fed since (ended_at net x) r t
      at =
          let one : (r - x) + x ≡ r = omega arith in
          let other : (r - x) + (x + (t - r)) ≡ t = omega arith in
          rw one at (rw other at far)

      as-many : (a : ℕ) → since a ≡ more a
      as-many a = omega (arith, at.counts a, alike.counts a)

      near : Alike net (regular net laws) fed since (ended_at net x) x (x + (t - r))
      unfolding since
      near = same-alike net (regular net laws) fed x (x + (t - r)) less alike_x

      like-from : (a j : ℕ) → j < count_of every a → ended_at net x a + more a ≤ j → IsLike every (t - r) more a j
      like-from a j there from =
          let place : (j - more a) + more a ≡ j = omega arith in
          let here : j - more a < count_of (earliest net (suc r)) a = omega (arith, alike.counts a) in
          let ends : end_of net every a ((j - more a) + since a) + r ≡ end_of net (earliest net (suc r)) a (j - more a) + t = at.ends a (j - more a) (omega arith) here in
          let mine : end_of net every a ((j - more a) + more a) + r ≡ end_of net (earliest net (suc r)) a (j - more a) + t = rw (as-many a) at ends in
          let kept : start_of every a (j - more a) ≡ start_of (earliest net (suc r)) a (j - more a) = (start-kept r t a (j - more a) (omega arith) here).1 in
          let time : time_of net a ((j - more a) + more a) ≡ time_of net a (j - more a) = time-shift net more whole a (j - more a) (actor-at a j there) in
          let starts : start_of every a ((j - more a) + more a) ≡ start_of every a (j - more a) + (t - r) = omega arith in
          record { after = omega arith; apart = sym (rw place at starts) }

      pub same-settled : (a j : ℕ) → j < count_of every a → (IsLike every (t - r) more a j → ⊥) → IsOver net every (t - r) more x a j
      same-settled a j there unlike = ⊎_elim
          (λ (from : ended_at net x a + more a ≤ j). absurd (unlike (like-from a j there from)))
          (λ (before_it : j < ended_at net x a + more a). record {
            later = later-ends before_it;
            earlier = λ after. earlier-ends before_it after;
          })
          (order (ended_at net x a + more a) j)
        where
          order : (m n : ℕ) → (m ≤ n) ⊎ (n < m)
          order m n = ⊎_elim (λ (h : n < m). inr h) (λ (h : m ≤ n). inl h) (cases_lt n m)

          later-ends : j < ended_at net x a + more a → end_of net every a j ≤ x + (t - r)
          later-ends below =
              let ended : Ended net (x + (t - r)) (earliest net (suc (x + (t - r)))) a (ended_at net (x + (t - r)) a) = ended-at-is net (regular net laws) fed (x + (t - r)) a in
              let number : ended_at net (x + (t - r)) a ≡ ended_at net x a + since a = near.ended a in
              let place : j < ended_at net (x + (t - r)) a = omega (arith, as-many a) in
              let done : end_of net (earliest net (suc (x + (t - r)))) a j ≤ x + (t - r) = ended.done j place in
              let within : ended_at net (x + (t - r)) a ≤ count_of (earliest net (suc (x + (t - r)))) a = ended.within in
              omega (arith, (start-kept (x + (t - r)) t a j (omega arith) (omega arith)).1)

          earlier-ends : j < ended_at net x a + more a → more a ≤ j → end_of net every a (j - more a) ≤ x
          earlier-ends below after =
              let ended : Ended net x (earliest net (suc x)) a (ended_at net x a) = ended-at-is net (regular net laws) fed x a in
              let done : end_of net (earliest net (suc x)) a (j - more a) ≤ x = ended.done (j - more a) (omega arith) in
              let within : ended_at net x a ≤ count_of (earliest net (suc x)) a = ended.within in
              omega (arith, (start-kept x t a (j - more a) (omega arith) (omega arith)).1)
