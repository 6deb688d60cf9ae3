-- What rows of starts tell: of the starts up to a moment, and of shapes that come again.
use Rattle.std.proofs.Common.{◌≡◌, ℕ, zero, suc, ◌+◌, ◌-◌, ◌≤◌, ◌<◌, ◌⊎◌, List, [], length, inl, inr, ⊎_elim, sym, refl, ◌∙◌, arith}
use Rattle.std.specs.Prelude.{slice_index_or}
use Rattle.std.proofs.lemmas.Bool.{cases_lt}
use Rattle.sd_base.specs.Net.{Net}
use Rattle.sd_base.specs.Schedules.{HasInputs, count_of, start_of, end_of, time_of}
use Rattle.sd_base.specs.SelfTimed.{earliest, shape_at}
use Rattle.sd_base.specs.Lawful.{Lawful}
use Rattle.sd_base.proofs.LawfulIsRegular.{regular}
use Rattle.sd_base.proofs.FiringsKeepOrder.{ends-le}
use Rattle.sd_base.proofs.EndsDecideCounts.{early_at, past_none}
use Rattle.loops.specs.StartRows.{AreStarts, Ascend, EndsRise, AreBy}
use Rattle.loops.specs.Settling.{IsLike, IsOver, IsSettled, IsRowLike, IsRowOver, IsRowSettled}
use Rattle.loops.proofs.SettledShapesMatch.{started-by, start-kept, more, more-counts, same-settled}

module _ (net : Net) (laws : Lawful net) (fed : HasInputs net) where
  -- ---- rows of starts

  module _ (t : ℕ) (starts : List (List ℕ)) (have : AreStarts net t starts) where
    after-one : t + 1 ≡ suc t
    after-one = omega arith

    pub row-count : (a : ℕ) → a < length net.times → count_of starts a ≡ count_of (earliest net (suc t)) a
    row-count a actor = rw after-one at have.all a actor

    pub row-start : (a k : ℕ) → a < length net.times → k < count_of starts a → start_of starts a k ≡ start_of (earliest net (suc t)) a k
    row-start a k actor there = rw after-one at have.moments a k actor there

    starts-along : (a k d : ℕ) → a < length net.times → d + k < count_of starts a → start_of starts a k ≤ start_of starts a (d + k)
    starts-along a k zero actor there = let e : 0 + k ≡ k = omega arith in rw e (omega arith)
    starts-along a k (suc d) actor there =
        let e : suc d + k ≡ (d + k) + 1 = omega arith in
        let up : start_of (earliest net (suc t)) a (d + k) ≤ start_of (earliest net (suc t)) a ((d + k) + 1) =
        (early_at net (regular net laws) fed (suc t)).admissible.rising a (d + k) (omega (arith, row-count a actor)) in
        rw e (omega (arith, starts-along a k d actor (omega arith), up, row-start a (d + k) actor (omega arith), row-start a ((d + k) + 1) actor (omega arith)))

    pub starts-ascend : (a : ℕ) → a < length net.times → Ascend (slice_index_or starts a [])
    starts-ascend a actor j k le there =
        let e : (k - j) + j ≡ k = omega arith in
        let up : start_of starts a j ≤ start_of starts a ((k - j) + j) = starts-along a j (k - j) actor (omega arith) in
        rw e at up

    pub ends-rise : (a : ℕ) → a < length net.times → EndsRise net a (slice_index_or starts a [])
    ends-rise a actor j k le there =
        let ends : end_of net (earliest net (suc t)) a j ≤ end_of net (earliest net (suc t)) a k =
        ends-le net (earliest net (suc t)) (regular net laws).own (early_at net (regular net laws) fed (suc t)).admissible a j k le (omega (arith, row-count a actor)) in
        omega (arith, row-start a j actor (omega arith), row-start a k actor there)

    -- so many starts are up to and with a moment
    pub count-by : (y a n : ℕ) → y ≤ t → a < length net.times → AreBy (slice_index_or starts a []) y n → n ≡ count_of (earliest net (y + 1)) a
    count-by y a n le actor by =
        let e : y + 1 ≡ suc y = omega arith in
        rw e (both (least n by.within by.by) most)
      where
        both : n ≤ count_of (earliest net (suc y)) a → count_of (earliest net (suc y)) a ≤ n → n ≡ count_of (earliest net (suc y)) a
        both one other = omega arith

        least : (m : ℕ) → m ≤ count_of starts a → (1 ≤ m → start_of starts a (m - 1) ≤ y) → m ≤ count_of (earliest net (suc y)) a
        least m within soon = ⊎_elim
            (λ (some : 0 < m).
            let there : m - 1 < count_of (earliest net (suc t)) a = omega (arith, row-count a actor) in
            let start : start_of (earliest net (suc t)) a (m - 1) ≤ y = omega (arith, row-start a (m - 1) actor (omega arith), soon (omega arith)) in
            omega (arith, started-by net laws fed y t a (m - 1) le there start))
            (λ (none : m ≤ 0). omega arith)
            (cases_lt 0 m)

        most : count_of (earliest net (suc y)) a ≤ n
        most = ⊎_elim
            (λ (many : n < count_of (earliest net (suc y)) a). absurd (
            let kept = start-kept net laws fed y t a n le many in
            let soon : start_of (earliest net (suc y)) a n < suc y = (early_at net (regular net laws) fed (suc y)).before a n many in
            let there : n < count_of starts a = omega (arith, row-count a actor, kept.0) in
            omega (arith, by.after n (omega arith) there, row-start a n actor there, kept.1)))
            (λ (h : count_of (earliest net (suc y)) a ≤ n). h)
            (cases_lt n (count_of (earliest net (suc y)) a))

  -- ---- by actor so many firings of a row between two moments

  module _ (r t : ℕ) (later : r < t) (v : ℕ → ℕ) (starts : List (List ℕ)) (have : AreStarts net t starts) where
    to-like : (a j m : ℕ) → a < length net.times → j < count_of starts a → m ≡ v a → IsRowLike (slice_index_or starts a []) m (t - r) j → IsLike (earliest net (suc t)) (t - r) v a j
    to-like a j m actor there is like = record {
      after = omega (arith, like.after);
      apart =
          let place : j - m ≡ j - v a = omega arith in
          let apart : start_of starts a (j - m) + (t - r) ≡ start_of starts a j = like.apart in
          let mine : start_of starts a (j - v a) + (t - r) ≡ start_of starts a j = rw place at apart in
          omega (arith, row-start t starts have a j actor there, row-start t starts have a (j - v a) actor (omega arith));
    }

    from-like : (a j m : ℕ) → a < length net.times → j < count_of starts a → m ≡ v a → IsLike (earliest net (suc t)) (t - r) v a j → IsRowLike (slice_index_or starts a []) m (t - r) j
    from-like a j m actor there is like = record {
      after = omega (arith, like.after);
      apart =
          let place : j - v a ≡ j - m = omega arith in
          let apart : start_of starts a (j - v a) + (t - r) ≡ start_of starts a j =
          omega (arith, like.apart, row-start t starts have a j actor there, row-start t starts have a (j - v a) actor (omega arith)) in
          rw place at apart;
    }

    to-over : (a j m x : ℕ) → a < length net.times → j < count_of starts a → m ≡ v a → IsRowOver net a (slice_index_or starts a []) m (t - r) x j → IsOver net (earliest net (suc t)) (t - r) v x a j
    to-over a j m x actor there is over = record {
      later = omega (arith, over.later, row-start t starts have a j actor there);
      earlier = λ after.
          let place : j - m ≡ j - v a = omega arith in
          let ends : start_of starts a (j - m) + time_of net a (j - m) ≤ x = over.earlier (omega arith) in
          let mine : start_of starts a (j - v a) + time_of net a (j - v a) ≤ x = rw place at ends in
          omega (arith, row-start t starts have a (j - v a) actor (omega arith));
    }

    from-over : (a j m x : ℕ) → a < length net.times → j < count_of starts a → m ≡ v a → IsOver net (earliest net (suc t)) (t - r) v x a j → IsRowOver net a (slice_index_or starts a []) m (t - r) x j
    from-over a j m x actor there is over = record {
      later = omega (arith, over.later, row-start t starts have a j actor there);
      earlier = λ after.
          let place : j - v a ≡ j - m = omega arith in
          let ends : start_of starts a (j - v a) + time_of net a (j - v a) ≤ x =
          omega (arith, over.earlier (omega arith), row-start t starts have a (j - v a) actor (omega arith)) in
          rw place at ends;
    }

    -- all rows are settled by a moment
    pub rows-settled : (x : ℕ) → ((a m : ℕ) → a < length net.times → m ≡ v a → IsRowSettled net a (slice_index_or starts a []) m (t - r) x) → IsSettled net (earliest net (suc t)) (t - r) v x
    rows-settled x rows a j there = ⊎_elim
        (λ (actor : a < length net.times).
        let place : j < count_of starts a = omega (arith, row-count t starts have a actor) in
        by actor place (rows a (v a) actor refl j place))
        (λ (past : length net.times ≤ a). absurd (omega (arith, past_none net (regular net laws) fed (suc t) a past)))
        (cases_lt a (length net.times))
      where
        by : a < length net.times → j < count_of starts a →
            IsRowLike (slice_index_or starts a []) (v a) (t - r) j ⊎ IsRowOver net a (slice_index_or starts a []) (v a) (t - r) x j →
            IsLike (earliest net (suc t)) (t - r) v a j ⊎ IsOver net (earliest net (suc t)) (t - r) v x a j
        by actor place (inl like) = inl (to-like a j (v a) actor place refl like)
        by actor place (inr over) = inr (to-over a j (v a) x actor place refl over)

  -- ---- equal shapes at the ends of a pair

  module _ (r t : ℕ) (later : r < t) (same : shape_at net r ≡ shape_at net t) (starts : List (List ℕ)) (have : AreStarts net t starts) where
    pub more-is : (a m : ℕ) → m ≡ count_of starts a - count_of (earliest net (r + 1)) a → a < length net.times → m ≡ more net laws fed r t later same a
    more-is a m is actor =
        let e : r + 1 ≡ suc r = omega arith in
        let mine : m ≡ count_of starts a - count_of (earliest net (suc r)) a = rw e at is in
        omega (arith, row-count t starts have a actor, more-counts net laws fed r t later same a)

    -- all rows are settled by a moment
    pub rows-settle : (x : ℕ) → ((a m : ℕ) → a < length net.times → m ≡ count_of starts a - count_of (earliest net (r + 1)) a → IsRowSettled net a (slice_index_or starts a []) m (t - r) x) →
        IsSettled net (earliest net (suc t)) (t - r) (more net laws fed r t later same) x
    rows-settle x rows = rows-settled r t later (more net laws fed r t later same) starts have x (λ a m actor is. rows a m actor (is ∙ sym (more-is a (count_of starts a - count_of (earliest net (r + 1)) a) refl actor)))

    -- where the shapes are equal a row's firings that aren't like are over
    pub same-over : (x a m j : ℕ) → x ≤ r → shape_at net x ≡ shape_at net (x + (t - r)) → a < length net.times → m ≡ count_of starts a - count_of (earliest net (r + 1)) a → j < count_of starts a →
        (IsRowLike (slice_index_or starts a []) m (t - r) j → ⊥) → IsRowOver net a (slice_index_or starts a []) m (t - r) x j
    same-over x a m j before equal actor is there unlike =
        let number : m ≡ more net laws fed r t later same a = more-is a m is actor in
        from-over r t later (more net laws fed r t later same) starts have a j m x actor there number (same-settled net laws fed r t later same x before equal a j (omega (arith, row-count t starts have a actor)) (λ like. unlike (from-like r t later (more net laws fed r t later same) starts have a j m actor there number like)))
