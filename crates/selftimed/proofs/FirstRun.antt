-- A first run beside the later ones.
use Rattle.std.proofs.Common.{◌≡◌, ◌≢◌, ℕ, zero, suc, ◌+◌, ◌*◌, ◌≤◌, ◌<◌, List, [], ◌∷◌, ◌++◌, Some, length, replicate, take, drop, ⊎_elim, sym, refl, ap, ◌∙◌, append_assoc, arith}
use Rattle.std.specs.Prelude.{slice_get, slice_index, sum}
use Rattle.std.proofs.lemmas.Bool.{cases_lt}
use Rattle.std.proofs.lemmas.List.{append-nil, drop_all, get_or-replicate, get_or_append_left, length-append, length-replicate, nil_from_length, replicate-append-replicate}
use Rattle.std.proofs.lemmas.List.Folds.{sum_by-replicate}
use Rattle.selftimed.specs.declared.queue.Run.{Run}
use Rattle.selftimed.specs.inside.Runs.{no_run, run_at, ends_of, AreRuns}
use Rattle.selftimed.specs.inside.Kept.{AreKept}
use Rattle.selftimed.proofs.RunsListEnds.{ends-first, ends-more, slice_get-front}

-- ---- what there is

pub length-first : (first : Run) (later : List Run) → length (ends_of (first ∷ later)) ≡ first.firings + length (ends_of later)
length-first first later = length-append (replicate first.firings first.end) (ends_of later) ∙ ap (λ (n : ℕ). n + length (ends_of later)) (length-replicate first.firings first.end)

-- where the first run has all firings, there is no later one
pub later-none : (first : Run) (later : List Run) → AreKept first later → length (ends_of (first ∷ later)) ≤ first.firings → later ≡ []
later-none first [] kept all = refl
later-none first (r ∷ rs) kept all = ⊎_elim
    (λ (h : 0 < first.firings).
    let some : 0 < r.firings = (kept.runs h).some 1 (omega arith) in
    absurd (omega (arith, some, length-first first (r ∷ rs), length-first r rs, all)))
    (λ (h : first.firings ≤ 0). kept.none (omega arith))
    (cases_lt 0 first.firings)

module _ (first : Run) (later : List Run) (kept : AreKept first later) (some : 0 < length (ends_of (first ∷ later))) where
  pub first-some : 0 < first.firings
  first-some = ⊎_elim
      (λ (h : 0 < first.firings). h)
      (λ (h : first.firings ≤ 0).
      let nothing : length (ends_of later) ≡ 0 = ap (λ (rs : List Run). length (ends_of rs)) (kept.none (omega arith)) in
      absurd (omega (arith, some, h, nothing, length-first first later)))
      (cases_lt 0 first.firings)

  pub first-runs : AreRuns (first ∷ later)
  first-runs = kept.runs first-some

  pub first-get : slice_get (ends_of (first ∷ later)) 0 ≡ Some first.end
  first-get = slice_get-front first.firings first.end (ends_of later) first-some

  pub first-index : slice_index (ends_of (first ∷ later)) 0 ≡ first.end
  first-index =
      get_or_append_left (replicate first.firings first.end) (ends_of later) 0 0 (omega (arith, first-some, length-replicate first.firings first.end))
      ∙ get_or-replicate first.firings 0 first.end 0 first-some

-- ---- a first run alone

pub alone-ends : (first : Run) (later : List Run) → later ≡ [] → ends_of (first ∷ later) ≡ replicate first.firings first.end
alone-ends first later none = rw none (append-nil (replicate first.firings first.end))

pub alone-runs : (first : Run) (later : List Run) → later ≡ [] → 0 < first.firings → AreRuns (first ∷ later)
alone-runs first later none some = rw none (record {
  some = λ k below. let e : k ≡ 0 = omega arith in rw e some;
  apart = λ k below. absurd (omega arith);
})

pub alone-sum : (first : Run) (later : List Run) → later ≡ [] → sum (ends_of (first ∷ later)) ≡ first.end * first.firings
alone-sum first later none = ap sum (alone-ends first later none) ∙ (sum_by-replicate (λ (x : ℕ). x) first.firings first.end ∙ omega arith)

pub alone-past : (first : Run) (later : List Run) (moment : ℕ) → later ≡ [] → first.end ≤ moment → (k : ℕ) → k < length (ends_of (first ∷ later)) → slice_index (ends_of (first ∷ later)) k ≤ moment
alone-past first later moment none past k below =
    let ends : ends_of (first ∷ later) ≡ replicate first.firings first.end = alone-ends first later none in
    let place : k < first.firings = omega (arith, below, ap length ends, length-replicate first.firings first.end) in
    rw (ends, get_or-replicate first.firings k first.end 0 place) past

pub alone-gone : (later : List Run) (n : ℕ) (ends : List ℕ) → later ≡ [] → n ≡ length ends → ends_of later ≡ drop n ends
alone-gone later n ends none all = ap ends_of none ∙ sym (drop_all n ends (omega arith))

-- firings that start where none run
pub alone-push : (first : Run) (later : List Run) (end n : ℕ) → AreKept first later → length (ends_of (first ∷ later)) ≤ 0 → replicate n end ++ ends_of later ≡ ends_of (first ∷ later) ++ replicate n end
alone-push first later end n kept none =
    let empty : later ≡ [] = later-none first later kept (omega arith) in
    let before : ends_of (first ∷ later) ≡ [] = nil_from_length (ends_of (first ∷ later)) (omega arith) in
    rw (before, empty) (append-nil (replicate n end))

-- ---- runs that are added behind

pub grown-first : (first : Run) (later : List Run) (n end : ℕ) → later ≡ [] → first.end ≡ end → replicate (first.firings + n) first.end ++ ends_of later ≡ ends_of (first ∷ later) ++ replicate n end
grown-first first later n end none same =
    rw (none, ← same, append-nil (replicate first.firings first.end), append-nil (replicate (first.firings + n) first.end)) (sym (replicate-append-replicate first.firings n first.end))

pub ends-behind : (first : Run) (old new : List Run) (more : List ℕ) → ends_of new ≡ ends_of old ++ more → ends_of (first ∷ new) ≡ ends_of (first ∷ old) ++ more
ends-behind first old new more is = ap (λ (xs : List ℕ). replicate first.firings first.end ++ xs) is ∙ sym (append_assoc (replicate first.firings first.end) (ends_of old) more)

module _ (first : Run) (new : List Run) (some : 0 < first.firings) (be : AreRuns new) where
  -- where the first one of the later runs ends at another moment
  runs-cons : (0 < length new → first.end ≢ (run_at new 0).end) → AreRuns (first ∷ new)
  runs-cons away = record { some = each; apart = others }
    where
      each : (k : ℕ) → k < length (first ∷ new) → 0 < (run_at (first ∷ new) k).firings
      each zero below = some
      each (suc k) below = be.some k (omega arith)

      others : (k : ℕ) → k + 1 < length (first ∷ new) → (run_at (first ∷ new) k).end ≢ (run_at (first ∷ new) (k + 1)).end
      others zero below = away (omega arith)
      others (suc k) below = let e : suc k + 1 ≡ suc (k + 1) = omega arith in rw e (be.apart k (omega arith))

  -- the first end of the later runs is that of their first run
  end-first : 0 < length new → slice_index (ends_of new) 0 ≡ (run_at new 0).end
  end-first there = ends-first new 0 there (be.some 0 there)

  pub runs-behind : (old : List Run) (end n : ℕ) → 0 < n → AreRuns (first ∷ old) → (length old ≡ 0 → first.end ≢ end) → ends_of new ≡ ends_of old ++ replicate n end → AreRuns (first ∷ new)
  runs-behind [] end n more are away is = runs-cons (λ there same.
      away refl (same ∙ (sym (end-first there) ∙ (ap (λ (xs : List ℕ). slice_index xs 0) is ∙ get_or-replicate n 0 end 0 more))))
  runs-behind (r ∷ rs) end n more are away is =
      let there : 0 < r.firings = are.some 1 (omega arith) in
      let front : slice_index (ends_of (r ∷ rs) ++ replicate n end) 0 ≡ r.end =
      get_or_append_left (ends_of (r ∷ rs)) (replicate n end) 0 0 (omega (arith, there, length-first r rs))
      ∙ (get_or_append_left (replicate r.firings r.end) (ends_of rs) 0 0 (omega (arith, there, length-replicate r.firings r.end)) ∙ get_or-replicate r.firings 0 r.end 0 there) in
      runs-cons (λ below same. are.apart 0 (omega arith) (same ∙ (sym (end-first below) ∙ (ap (λ (xs : List ℕ). slice_index xs 0) is ∙ front))))

-- ---- runs that ended with the first one

pub ends-more-first : (first : Run) (later : List Run) (k : ℕ) → k < length later → ends_of (first ∷ take (k + 1) later) ≡ ends_of (first ∷ take k later) ++ replicate (run_at later k).firings (run_at later k).end
ends-more-first first later k below = ends-behind first (take k later) (take (k + 1) later) (replicate (run_at later k).firings (run_at later k).end) (ends-more later k below)

module _ (later rest : List Run) (n : ℕ) (next : Run) (more : n < length later → next ∷ rest ≡ drop n later) (none : length later ≤ n → (next ≡ no_run) × (rest ≡ [])) where
  pub past-ends : ends_of (next ∷ rest) ≡ ends_of (drop n later)
  past-ends = ⊎_elim
      (λ (below : n < length later). ap ends_of (more below))
      (λ (all : length later ≤ n).
      let empty : next ∷ rest ≡ no_run ∷ [] = ap (λ (r : Run). r ∷ rest) (none all).0 ∙ ap (λ (rs : List Run). no_run ∷ rs) (none all).1 in
      ap ends_of empty ∙ ap ends_of (sym (drop_all n later all)))
      (cases_lt n (length later))

  pub past-kept : AreRuns (drop n later) → AreKept next rest
  past-kept are = ⊎_elim
      (λ (below : n < length later).
      let left : AreRuns (next ∷ rest) = rw (more below) are in
      record { runs = λ some. left; none = λ nothing. absurd (omega (arith, nothing, left.some 0 (omega arith))) })
      (λ (all : length later ≤ n).
      let nothing : next.firings ≡ 0 = ap (λ (r : Run). r.firings) (none all).0 in
      record { runs = λ some. absurd (omega arith); none = λ h. (none all).1 })
      (cases_lt n (length later))
