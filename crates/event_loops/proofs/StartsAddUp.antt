-- The starts of each next event are added to those collected so far.
use Rattle.std.proofs.Common.{◌≡◌, ◌≢◌, ℕ, suc, ◌+◌, ◌-◌, ◌≤◌, ◌<◌, ◌⊎◌, List, [], ◌++◌, length, inl, inr, ⊎_elim, sym, refl, ap, ◌∙◌, arith, set, length-append}
use Rattle.std.specs.Prelude.{slice_index, slice_index_or, replicate}
use Rattle.std.proofs.lemmas.Bool.{cases_lt, cases_eq}
use Rattle.std.proofs.lemmas.List.{append-nil, ext_get_or, get_or_default, get_or_append_left, get_or-append_right, get_or-replicate, length-replicate, length-set, get_or-set_same, get_or-set_other}
use Rattle.sd_base.specs.Net.{Net}
use Rattle.sd_base.specs.Schedules.{HasInputs, count_of, start_of, end_of}
use Rattle.sd_base.specs.SelfTimed.{earliest}
use Rattle.sd_base.specs.Lawful.{Lawful}
use Rattle.sd_base.proofs.LawfulIsRegular.{regular}
use Rattle.sd_base.proofs.EndsDecideCounts.{Quiet, early_at, ended-at-is, quiet-until, empty-rows}
use Rattle.sd_base.proofs.EarliestExists.{extended-is}
use Rattle.sd_base.proofs.StartsMeetEnds.{earliest-within}
use Rattle.sd_base.proofs.EqualShapesRepeat.{count-rises}
use Rattle.selftimed.specs.declared.engine.Stage.{Stage}
use Rattle.selftimed.specs.declared.engine.Stage.TheVariants.{Fresh, Running, Spent, OutOfMemory}
use Rattle.selftimed.specs.Moves.{AreStarters, IsNextEvent, ComesNext}
use Rattle.selftimed.proofs.EventQueuesTellWhoRuns.{has-number}
use Rattle.loops.specs.StartRows.{AreStarts}
use Rattle.event_loops.specs.inside.Collecting.{HasStarts, AddsStarts}

module _ (net : Net) (laws : Lawful net) (fed : HasInputs net) where
  -- nothing that runs ends before the next event
  quiet-next : (m u : ℕ) → IsNextEvent net m u → Quiet net m u
  quiet-next m u next = record {
    still = λ a k ended there. ⊎_elim
        (λ (soon : end_of net (earliest net (suc m)) a k < u). absurd (
        let going : m < end_of net (earliest net (suc m)) a k = (ended-at-is net (regular net laws) fed m a).going k ended there in
        let kept = earliest-within net (suc m) (end_of net (earliest net (suc m)) a k) (earliest net (suc m)) (earliest net (end_of net (earliest net (suc m)) a k))
        (early_at net (regular net laws) fed (suc m)) (early_at net (regular net laws) fed (end_of net (earliest net (suc m)) a k)) (omega arith) a k there in
        let same : start_of (earliest net (end_of net (earliest net (suc m)) a k)) a k ≡ start_of (earliest net (suc m)) a k = kept.1 in
        next.quiet (end_of net (earliest net (suc m)) a k) going soon (inr (a, k, kept.0, omega arith))))
        (λ (h : u ≤ end_of net (earliest net (suc m)) a k). h)
        (cases_lt (end_of net (earliest net (suc m)) a k) u);
  }

  -- what starts between an event and the next one, that one included, starts at that one
  new-start : (m u a k : ℕ) → IsNextEvent net m u → count_of (earliest net (m + 1)) a ≤ k → k < count_of (earliest net (u + 1)) a → start_of (earliest net (u + 1)) a k ≡ u
  new-start m u a k next past there =
      let e : m + 1 ≡ suc m = omega arith in
      let f : u + 1 ≡ suc u = omega arith in
      let same = quiet-until net (regular net laws) fed m u (quiet-next m u next) next.later in
      let counts : count_of (earliest net (suc m)) a ≡ count_of (earliest net u) a = same.counts a in
      let past_there : count_of (earliest net (suc m)) a ≤ k = rw e at past in
      let here : k < count_of (earliest net (suc u)) a = rw f at there in
      rw f ((extended-is net (regular net laws) fed u).added a k (omega arith) here)

  -- before moment 0 nothing starts
  first-none : (a : ℕ) → count_of (earliest net 0) a ≡ 0
  first-none a =
      let none : (k : ℕ) → k < count_of (earliest net 0) a → ⊥ = λ k below. let before : start_of (earliest net 0) a k < 0 = (early_at net (regular net laws) fed 0).before a k below in omega arith in
      ⊎_elim (λ (some : 0 < count_of (earliest net 0) a). absurd (none 0 some)) (λ (h : count_of (earliest net 0) a ≤ 0). omega arith) (cases_lt 0 (count_of (earliest net 0) a))

  -- what starts up to and with moment 0 starts at 0
  first-start : (a k : ℕ) → k < count_of (earliest net (0 + 1)) a → start_of (earliest net (0 + 1)) a k ≡ 0
  first-start a k there = (extended-is net (regular net laws) fed 0).added a k (omega (arith, first-none a)) there

  -- rows with starts of the earliest schedule gain those that come at a moment
  starts-join : (t : ℕ) (old new : List (List ℕ)) → length old ≡ length net.times →
      ((a : ℕ) → a < length net.times → count_of old a ≤ count_of (earliest net (t + 1)) a) →
      ((a k : ℕ) → a < length net.times → k < count_of old a → start_of old a k ≡ start_of (earliest net (t + 1)) a k) →
      ((a k : ℕ) → a < length net.times → count_of old a ≤ k → k < count_of (earliest net (t + 1)) a → start_of (earliest net (t + 1)) a k ≡ t) →
      AddsStarts net t old new → AreStarts net t new
  starts-join t old new rows fewer kept fresh adds = record {
    rows = adds.rows ∙ rows;
    all = all;
    moments = λ a k actor there. moments a k actor there (cases_lt k (count_of old a));
  }
    where
      count : (a : ℕ) → a < length net.times → count_of new a ≡ count_of old a + (count_of (earliest net (t + 1)) a - count_of old a)
      count a actor = ap length (adds.each a actor) ∙ (length-append (slice_index_or old a []) (replicate (count_of (earliest net (t + 1)) a - count_of old a) t) ∙ ap (λ (x : ℕ). count_of old a + x) (length-replicate (count_of (earliest net (t + 1)) a - count_of old a) t))

      all : (a : ℕ) → a < length net.times → count_of new a ≡ count_of (earliest net (t + 1)) a
      all a actor = omega (arith, fewer a actor, count a actor)

      moments : (a k : ℕ) → a < length net.times → k < count_of new a → (k < count_of old a) ⊎ (count_of old a ≤ k) → start_of new a k ≡ start_of (earliest net (t + 1)) a k
      moments a k actor there (inl before_it) =
          let read : start_of new a k ≡ start_of old a k = ap (λ (row : List ℕ). slice_index row k) (adds.each a actor)
          ∙ get_or_append_left (slice_index_or old a []) (replicate (count_of (earliest net (t + 1)) a - count_of old a) t) 0 k before_it in
          read ∙ kept a k actor before_it
      moments a k actor there (inr after_it) =
          let read : start_of new a k ≡ slice_index (replicate (count_of (earliest net (t + 1)) a - count_of old a) t) (k - count_of old a) = ap (λ (row : List ℕ). slice_index row k) (adds.each a actor)
          ∙ get_or-append_right (slice_index_or old a []) (replicate (count_of (earliest net (t + 1)) a - count_of old a) t) (count_of old a) k 0 refl after_it in
          let within : k - count_of old a < count_of (earliest net (t + 1)) a - count_of old a = omega (arith, count a actor) in
          let now : slice_index (replicate (count_of (earliest net (t + 1)) a - count_of old a) t) (k - count_of old a) ≡ t = get_or-replicate (count_of (earliest net (t + 1)) a - count_of old a) (k - count_of old a) t 0 within in
          read ∙ (now ∙ sym (fresh a k actor after_it (omega (arith, all a actor))))

  -- the rows of an engine have no more starts than there are up to its next event
  pub has-fewer : (stage : Stage) (now t : ℕ) (old : List (List ℕ)) → HasStarts net stage now old → ComesNext net stage now t →
      (a : ℕ) → a < length net.times → count_of old a ≤ count_of (earliest net (t + 1)) a
  has-fewer Fresh now t old have next a actor =
      let none : count_of old a ≡ 0 = rw have (empty-rows (length net.times) a) in
      omega arith
  has-fewer Running now t old have next a actor =
      let later : now < t = next.later in
      omega (arith, have.all a actor, count-rises net (regular net laws) fed (now + 1) (t + 1) (omega arith) a)
  has-fewer Spent now t old have next a actor = absurd next
  has-fewer OutOfMemory now t old have next a actor = absurd next

  -- and just those before it
  pub has-before : (stage : Stage) (now t : ℕ) (old : List (List ℕ)) → HasStarts net stage now old → ComesNext net stage now t →
      (a : ℕ) → a < length net.times → count_of old a ≡ count_of (earliest net t) a
  has-before Fresh now t old have next a actor =
      let none : count_of old a ≡ 0 = rw have (empty-rows (length net.times) a) in
      rw next (none ∙ sym (first-none a))
  has-before Running now t old have next a actor =
      let e : now + 1 ≡ suc now = omega arith in
      (rw e at (have.all a actor)) ∙ (quiet-until net (regular net laws) fed now t (quiet-next now t next) next.later).counts a
  has-before Spent now t old have next a actor = absurd next
  has-before OutOfMemory now t old have next a actor = absurd next

  pub has-rows : (stage : Stage) (now t : ℕ) (old : List (List ℕ)) → HasStarts net stage now old → ComesNext net stage now t → length old ≡ length net.times
  has-rows Fresh now t old have next = rw have (length-replicate {A = List ℕ} (length net.times) [])
  has-rows Running now t old have next = have.rows
  has-rows Spent now t old have next = absurd next
  has-rows OutOfMemory now t old have next = absurd next

  -- with those of the next event they have all up to there
  pub has-next : (stage : Stage) (now t : ℕ) (old new : List (List ℕ)) → HasStarts net stage now old → ComesNext net stage now t → AddsStarts net t old new → AreStarts net t new
  has-next Fresh now t old new have next adds =
      let none : (a : ℕ) → count_of old a ≡ 0 = λ a. rw have (empty-rows (length net.times) a) in
      starts-join t old new (has-rows Fresh now t old have next) (has-fewer Fresh now t old have next)
      (λ a k actor there. absurd (omega (arith, none a)))
      (λ a k actor past there. rw next (first-start a k (rw next at there))) adds
  has-next Running now t old new have next adds =
      starts-join t old new have.rows (has-fewer Running now t old have next)
      (λ a k actor there.
      let later : now < t = next.later in
      let below : k < count_of (earliest net (now + 1)) a = omega (arith, have.all a actor) in
      have.moments a k actor there ∙ sym ((earliest-within net (now + 1) (t + 1) (earliest net (now + 1)) (earliest net (t + 1)) (early_at net (regular net laws) fed (now + 1)) (early_at net (regular net laws) fed (t + 1)) (omega arith) a k below).1))
      (λ a k actor past there. new-start now t a k next (omega (arith, have.all a actor)) there) adds
  has-next Spent now t old new have next adds = absurd next
  has-next OutOfMemory now t old new have next adds = absurd next

-- ---- the rows of the actors that start, one after another

-- a row has gained its starts
abbrev pub IsAdded : Net → ℕ → List (List ℕ) → List (List ℕ) → ℕ → Type 0
IsAdded net now old new a = slice_index_or new a [] ≡ slice_index_or old a [] ++ replicate (count_of (earliest net (now + 1)) a - count_of old a) now

-- each row has gained its starts, or is as it was and not among the first n that were listed
pub record AddsSoFar (net : Net) (now : ℕ) (list : List ℕ) (old new : List (List ℕ)) (n : ℕ) : Type 0 where
  pub rows : length new ≡ length old
  pub each : (a : ℕ) → a < length net.times → IsAdded net now old new a ⊎ ((slice_index_or new a [] ≡ slice_index_or old a []) × ((j : ℕ) → j < n → slice_index list j ≢ a))

pub adds-none : (net : Net) (now : ℕ) (list : List ℕ) (old : List (List ℕ)) → AddsSoFar net now list old old 0
adds-none net now list old = record { rows = refl; each = λ a actor. inr (refl, λ j below. absurd (omega arith)) }

pub adds-step : (net : Net) (now n x : ℕ) (list : List ℕ) (old new : List (List ℕ)) (row : List ℕ) → AddsSoFar net now list old new n → slice_index list n ≡ x → x < length old → x < length net.times →
    count_of old x ≤ count_of (earliest net (now + 1)) x → row ≡ slice_index_or new x [] ++ replicate (count_of (earliest net (now + 1)) x - count_of new x) now → AddsSoFar net now list old (set new x row) (n + 1)
adds-step net now n x list old new row adds listed place actor fewer filled = record {
  rows = length-set new x row ∙ adds.rows;
  each = λ a is. each a is (cases_eq a x);
}
  where
    all : ℕ
    all = count_of (earliest net (now + 1)) x

    put : slice_index_or (set new x row) x [] ≡ row
    put = get_or-set_same new x row [] (omega (arith, adds.rows))

    here : IsAdded net now old new x ⊎ ((slice_index_or new x [] ≡ slice_index_or old x []) × ((j : ℕ) → j < n → slice_index list j ≢ x)) → row ≡ slice_index_or old x [] ++ replicate (all - count_of old x) now
    here (inl added) =
        let count : count_of new x ≡ count_of old x + (all - count_of old x) =
        ap length added ∙ (length-append (slice_index_or old x []) (replicate (all - count_of old x) now) ∙ ap (λ (k : ℕ). count_of old x + k) (length-replicate (all - count_of old x) now)) in
        let none : all - count_of new x ≡ 0 = omega arith in
        filled ∙ (ap (λ (k : ℕ). slice_index_or new x [] ++ replicate k now) none ∙ (append-nil (slice_index_or new x []) ∙ added))
    here (inr same) = filled ∙ ap (λ (r : List ℕ). r ++ replicate (all - length r) now) same.0

    each : (a : ℕ) → a < length net.times → (a ≡ x) ⊎ (a ≡ x → ⊥) →
        IsAdded net now old (set new x row) a ⊎ ((slice_index_or (set new x row) a [] ≡ slice_index_or old a []) × ((j : ℕ) → j < n + 1 → slice_index list j ≢ a))
    each a is (inl same) = rw same (inl (put ∙ here (adds.each x actor)))
    each a is (inr other) = ⊎_elim
        (λ (added : IsAdded net now old new a). inl (get_or-set_other new x a row [] other ∙ added))
        (λ (kept : (slice_index_or new a [] ≡ slice_index_or old a []) × ((j : ℕ) → j < n → slice_index list j ≢ a)). inr (
          get_or-set_other new x a row [] other ∙ kept.0,
          λ j below e. ⊎_elim (λ (h : j < n). kept.1 j h e) (λ (h : n ≤ j). let last : j ≡ n = omega arith in other (sym e ∙ (ap (slice_index list) last ∙ listed))) (cases_lt j n),
        ))
        (adds.each a is)

-- rows that aren't listed have nothing to gain
pub adds-all : (net : Net) (now n : ℕ) (list : List ℕ) (old new : List (List ℕ)) → AreStarters net now list → ((a : ℕ) → a < length net.times → count_of old a ≡ count_of (earliest net now) a) →
    length list ≤ n → AddsSoFar net now list old new n → AddsStarts net now old new
adds-all net now n list old new starters before whole adds = record { rows = adds.rows; each = λ a is. each a is (adds.each a is) }
  where
    each : (a : ℕ) → a < length net.times → IsAdded net now old new a ⊎ ((slice_index_or new a [] ≡ slice_index_or old a []) × ((j : ℕ) → j < n → slice_index list j ≢ a)) → IsAdded net now old new a
    each a is (inl added) = added
    each a is (inr kept) = ⊎_elim
        (λ (more : count_of (earliest net now) a < count_of (earliest net (now + 1)) a).
        let found = has-number list a (starters.listed a is more) in
        absurd (kept.1 found.0 (omega (arith, found.1)) (get_or_default list found.0 0 a found.1 ∙ found.2)))
        (λ (same : count_of (earliest net (now + 1)) a ≤ count_of (earliest net now) a).
        let none : count_of (earliest net (now + 1)) a - count_of old a ≡ 0 = omega (arith, before a is) in
        kept.0 ∙ (sym (append-nil (slice_index_or old a [])) ∙ ap (λ (k : ℕ). slice_index_or old a [] ++ replicate k now) (sym none)))
        (cases_lt (count_of (earliest net now) a) (count_of (earliest net (now + 1)) a))

-- rows of all starts up to and with a moment are the earliest schedule
pub starts-are : (net : Net) → Lawful net → HasInputs net → (now : ℕ) (rows : List (List ℕ)) → AreStarts net now rows → rows ≡ earliest net (now + 1)
starts-are net laws fed now rows are = ext_get_or [] rows (earliest net (now + 1)) (are.rows ∙ sym long) each
  where
    long : length (earliest net (now + 1)) ≡ length net.times
    long = (early_at net (regular net laws) fed (now + 1)).admissible.actors

    each : (a : ℕ) → a < length rows → slice_index_or rows a [] ≡ slice_index_or (earliest net (now + 1)) a []
    each a below =
        let actor : a < length net.times = omega (arith, are.rows) in
        ext_get_or 0 (slice_index_or rows a []) (slice_index_or (earliest net (now + 1)) a []) (are.all a actor) (λ k there. are.moments a k actor there)
