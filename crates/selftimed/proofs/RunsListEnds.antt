-- The ends of runs are those of their parts, one after another.
use Rattle.std.proofs.Common.{◌≡◌, ◌≢◌, ℕ, zero, suc, ◌+◌, ◌-◌, ◌≤◌, ◌<◌, List, [], ◌∷◌, ◌++◌, Some, length, replicate, set, take, drop, ⊎_elim, sym, refl, ap, ◌∙◌, append_assoc, add-zero, arith}
use Rattle.std.specs.Prelude.{slice_get, slice_index, All}
use Rattle.std.proofs.Math.Seq.{take-length}
use Rattle.std.proofs.lemmas.Bool.{cases_eq, cases_lt}
use Rattle.std.proofs.lemmas.List.{take-append-drop, take_more, take_more_set, drop_at, drop-set-add, get_or-drop, get_or-replicate, get_or-set_same, get_or-set_other, get_or_append_left, get_or_push, length-append, length-drop, length-replicate, length-set, length_push, nil_from_length, flat_map_more, replicate-append-replicate}
use Rattle.std.proofs.lemmas.List.Concat.{flat_map-append, get_or-flat_map}
use Rattle.selftimed.specs.declared.queue.Run.{Run}
use Rattle.selftimed.specs.inside.Runs.{no_run, run_at, ends_of, AreRuns, EndsLastAt, more_of, grown, NoneEnded}

-- ---- parts of runs

pub ends-push : (runs : List Run) (r : Run) → ends_of (runs ++ r ∷ []) ≡ ends_of runs ++ replicate r.firings r.end
ends-push runs r = sym (flat_map_more (λ (x : Run). replicate x.firings x.end) [] runs r)

pub ends-parts : (runs : List Run) (n : ℕ) → ends_of (take n runs) ++ ends_of (drop n runs) ≡ ends_of runs
ends-parts runs n = sym (flat_map-append (λ (x : Run). replicate x.firings x.end) (take n runs) (drop n runs)) ∙ ap ends_of (take-append-drop n runs)

pub ends-more : (runs : List Run) (k : ℕ) → k < length runs → ends_of (take (k + 1) runs) ≡ ends_of (take k runs) ++ replicate (run_at runs k).firings (run_at runs k).end
ends-more runs k below = ap ends_of (take_more runs k no_run below) ∙ ends-push (take k runs) (run_at runs k)

pub length-more : (runs : List Run) (k : ℕ) → k < length runs → length (ends_of (take (k + 1) runs)) ≡ length (ends_of (take k runs)) + (run_at runs k).firings
length-more runs k below =
    ap length (ends-more runs k below) ∙ (length-append (ends_of (take k runs)) (replicate (run_at runs k).firings (run_at runs k).end)
    ∙ ap (λ (x : ℕ). length (ends_of (take k runs)) + x) (length-replicate (run_at runs k).firings (run_at runs k).end))

pub ends-drop : (runs : List Run) (n firings : ℕ) → firings ≡ length (ends_of (take n runs)) → drop firings (ends_of runs) ≡ ends_of (drop n runs)
ends-drop runs n firings is = ap (drop firings) (sym (ends-parts runs n)) ∙ drop_at (ends_of (take n runs)) (ends_of (drop n runs)) firings (sym is)

pub ends-length : (runs : List Run) (n : ℕ) → length (ends_of (take n runs)) + length (ends_of (drop n runs)) ≡ length (ends_of runs)
ends-length runs n = sym (length-append (ends_of (take n runs)) (ends_of (drop n runs))) ∙ ap length (ends-parts runs n)

pub ends-last : (runs : List Run) (n : ℕ) → length runs ≤ n → length (ends_of (take n runs)) ≡ length (ends_of runs)
ends-last runs n past =
    let none : drop n runs ≡ [] = nil_from_length (drop n runs) (omega (arith, length-drop n runs)) in
    let nothing : length (ends_of (drop n runs)) ≡ 0 = ap (λ (rs : List Run). length (ends_of rs)) none in
    omega (arith, ends-length runs n, nothing)

-- the first firing of a run
pub ends-first : (runs : List Run) (n : ℕ) → n < length runs → 0 < (run_at runs n).firings → slice_index (ends_of runs) (length (ends_of (take n runs))) ≡ (run_at runs n).end
ends-first runs n below some =
    let there : 0 < length (replicate (run_at runs n).firings (run_at runs n).end) = omega (arith, length-replicate (run_at runs n).firings (run_at runs n).end) in
    let at : length (ends_of (take n runs)) + 0 ≡ length (ends_of (take n runs)) = add-zero (length (ends_of (take n runs))) in
    sym (ap (slice_index (ends_of runs)) at) ∙ (get_or-flat_map (λ (x : Run). replicate x.firings x.end) runs n 0 no_run 0 below there ∙ get_or-replicate (run_at runs n).firings 0 (run_at runs n).end 0 some)

-- no firing of some runs ended before a moment
pub none-ended : (moment : ℕ) (runs : List Run) → AreRuns runs → ((k : ℕ) → k < length (ends_of runs) → moment ≤ slice_index (ends_of runs) k) → NoneEnded moment runs
none-ended moment runs are past n below =
    let first : slice_index (ends_of runs) (length (ends_of (take n runs))) ≡ (run_at runs n).end = ends-first runs n below (are.some n below) in
    omega (arith, first, past (length (ends_of (take n runs))) (omega (arith, length-more runs n below, ends-length runs (n + 1), are.some n below)))

-- ---- runs that are dropped, added and grown

pub runs-drop : (runs : List Run) (n : ℕ) → AreRuns runs → AreRuns (drop n runs)
runs-drop runs n are = record {
  some = λ k below.
      let place : n + k < length runs = omega (arith, length-drop n runs) in
      rw (get_or-drop n runs k no_run) (are.some (n + k) place);
  apart = λ k below.
      let place : n + k + 1 < length runs = omega (arith, length-drop n runs) in
      let e : n + (k + 1) ≡ n + k + 1 = omega arith in
      rw (get_or-drop n runs k no_run, get_or-drop n runs (k + 1) no_run, e) (are.apart (n + k) place);
}

pub runs-push : (runs : List Run) (r : Run) → 0 < r.firings → (EndsLastAt runs r.end → ⊥) → AreRuns runs → AreRuns (runs ++ r ∷ [])
runs-push runs r some away are = record {
  some = λ k below. ⊎_elim
      (λ (early : k < length runs). rw (get_or_append_left runs (r ∷ []) no_run k early) (are.some k early))
      (λ (late : length runs ≤ k).
      let last : length runs ≡ k = omega (arith, length_push runs r) in
      rw (get_or_push runs r no_run k last) some)
      (cases_lt k (length runs));
  apart = λ k below same.
      let place : k < length runs = omega (arith, length_push runs r) in
      let here : run_at (runs ++ r ∷ []) k ≡ run_at runs k = get_or_append_left runs (r ∷ []) no_run k place in
      ⊎_elim
      (λ (early : k + 1 < length runs). are.apart k early (rw (here, get_or_append_left runs (r ∷ []) no_run (k + 1) early) at same))
      (λ (late : length runs ≤ k + 1).
      let last : length runs ≡ k + 1 = omega arith in
      let at : k ≡ length runs - 1 = omega arith in
      let ends_there : (run_at runs k).end ≡ r.end = rw (here, get_or_push runs r no_run (k + 1) last) at same in
      away (omega arith, rw at at ends_there))
      (cases_lt (k + 1) (length runs));
}

module _ (runs : List Run) (n end : ℕ) (last : EndsLastAt runs end) where
  pub grown-ends : ends_of (grown runs n) ≡ ends_of runs ++ replicate n end
  grown-ends =
      let place : length runs - 1 < length runs = omega (arith, last.0) in
      let whole : length runs - 1 + 1 ≡ length runs = omega (arith, last.0) in
      let all : take (length runs - 1 + 1) (grown runs n) ≡ grown runs n =
      ap (λ (k : ℕ). take k (grown runs n)) (whole ∙ sym (length-set runs (length runs - 1) (more_of (run_at runs (length runs - 1)) n))) ∙ take-length (grown runs n) in
      let new : ends_of (grown runs n) ≡ ends_of (take (length runs - 1) runs) ++ replicate ((run_at runs (length runs - 1)).firings + n) (run_at runs (length runs - 1)).end =
      ap ends_of (sym all ∙ take_more_set runs (length runs - 1) (more_of (run_at runs (length runs - 1)) n) place) ∙ ends-push (take (length runs - 1) runs) (more_of (run_at runs (length runs - 1)) n) in
      let old : ends_of runs ≡ ends_of (take (length runs - 1) runs) ++ replicate (run_at runs (length runs - 1)).firings (run_at runs (length runs - 1)).end =
      ap ends_of (sym (take-length runs) ∙ ap (λ (k : ℕ). take k runs) (sym whole)) ∙ ends-more runs (length runs - 1) place in
      let split : replicate ((run_at runs (length runs - 1)).firings + n) (run_at runs (length runs - 1)).end ≡ replicate (run_at runs (length runs - 1)).firings (run_at runs (length runs - 1)).end ++ replicate n end =
      sym (replicate-append-replicate (run_at runs (length runs - 1)).firings n (run_at runs (length runs - 1)).end) ∙ ap (λ (e : ℕ). replicate (run_at runs (length runs - 1)).firings (run_at runs (length runs - 1)).end ++ replicate n e) last.1 in
      new ∙ (ap (λ (xs : List ℕ). ends_of (take (length runs - 1) runs) ++ xs) split
      ∙ (sym (append_assoc (ends_of (take (length runs - 1) runs)) (replicate (run_at runs (length runs - 1)).firings (run_at runs (length runs - 1)).end) (replicate n end))
      ∙ ap (λ (xs : List ℕ). xs ++ replicate n end) (sym old)))

  -- the end of each run is as before, and its firings are no fewer
  grown-at : (k : ℕ) → k < length runs → (((run_at (grown runs n) k).end ≡ (run_at runs k).end) × ((run_at runs k).firings ≤ (run_at (grown runs n) k).firings))
  grown-at k below = ⊎_elim
      (λ (same : k ≡ length runs - 1).
      let here : run_at (grown runs n) k ≡ more_of (run_at runs k) n = rw same (get_or-set_same runs (length runs - 1) (more_of (run_at runs (length runs - 1)) n) no_run (omega (arith, last.0))) in
      rw here (refl, omega arith))
      (λ (other : k ≢ length runs - 1).
      let here : run_at (grown runs n) k ≡ run_at runs k = get_or-set_other runs (length runs - 1) k (more_of (run_at runs (length runs - 1)) n) no_run other in
      rw here (refl, omega arith))
      (cases_eq k (length runs - 1))

  pub grown-runs : AreRuns runs → AreRuns (grown runs n)
  grown-runs are = record {
    some = λ k below.
        let place : k < length runs = omega (arith, length-set runs (length runs - 1) (more_of (run_at runs (length runs - 1)) n)) in
        let more = grown-at k place in
        omega (arith, more.1, are.some k place);
    apart = λ k below same.
        let place : k + 1 < length runs = omega (arith, length-set runs (length runs - 1) (more_of (run_at runs (length runs - 1)) n)) in
        let one = grown-at k (omega arith) in
        let next = grown-at (k + 1) place in
        are.apart k place (sym one.0 ∙ (same ∙ next.0));
  }

-- a list whose last run grows, from the first one that isn't past
pub grown-drop : (items runs : List Run) (head n last : ℕ) → drop head items ≡ runs → 0 < length runs → last ≡ length items - 1 → drop head (set items last (more_of (run_at items last) n)) ≡ grown runs n
grown-drop items runs head n last is some ends =
    let long : length runs ≡ length items - head = ap length (sym is) ∙ length-drop head items in
    let e : last ≡ head + (length runs - 1) = omega arith in
    let read : run_at runs (length runs - 1) ≡ run_at items (head + (length runs - 1)) = ap (λ (rs : List Run). run_at rs (length runs - 1)) (sym is) ∙ get_or-drop head items (length runs - 1) no_run in
    let moved : drop head (set items (head + (length runs - 1)) (more_of (run_at items (head + (length runs - 1))) n)) ≡ set (drop head items) (length runs - 1) (more_of (run_at items (head + (length runs - 1))) n) = drop-set-add head items (length runs - 1) (more_of (run_at items (head + (length runs - 1))) n) in
    rw e (moved ∙ (ap (λ (rs : List Run). set rs (length runs - 1) (more_of (run_at items (head + (length runs - 1))) n)) is ∙ ap (λ (r : Run). set runs (length runs - 1) (more_of r n)) (sym read)))

-- the last run has no more firings than there are
pub last-few : (runs : List Run) → 0 < length runs → (run_at runs (length runs - 1)).firings ≤ length (ends_of runs)
last-few runs some =
    let place : length runs - 1 < length runs = omega arith in
    omega (arith, length-more runs (length runs - 1) place, ends-length runs (length runs - 1 + 1))

-- ---- the first firing, and those that are taken off

pub slice_get-front : (n end : ℕ) (more : List ℕ) → 0 < n → slice_get (replicate n end ++ more) 0 ≡ Some end
slice_get-front zero end more some = absurd (omega arith)
slice_get-front (suc n) end more some = refl

module _ (runs : List Run) (n firings : ℕ) (is : firings ≡ length (ends_of (take n runs))) where
  pub popped-within : firings ≤ length (ends_of runs)
  popped-within = omega (arith, is, ends-length runs n)

  pub popped-past : (moment : ℕ) → All (λ (end : ℕ). end ≤ moment) (ends_of (take n runs)) → (k : ℕ) → k < firings → slice_index (ends_of runs) k ≤ moment
  popped-past moment past k below =
      let place : k < length (ends_of (take n runs)) = omega (arith, is) in
      rw (← ends-parts runs n, get_or_append_left (ends_of (take n runs)) (ends_of (drop n runs)) 0 k place) (past k 0 place)

  pub popped-next : (moment : ℕ) → AreRuns runs → (n < length runs → moment < (run_at runs n).end) → firings < length (ends_of runs) → moment < slice_index (ends_of runs) firings
  popped-next moment are next less = ⊎_elim
      (λ (below : n < length runs). rw (is, ends-first runs n below (are.some n below)) (next below))
      (λ (past : length runs ≤ n). absurd (omega (arith, is, ends-last runs n past)))
      (cases_lt n (length runs))
