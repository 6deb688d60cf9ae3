-- The times left of runs, and that runs are told by their ends.
use Rattle.std.proofs.Common.{◌≡◌, ℕ, zero, suc, ◌+◌, ◌-◌, ◌≤◌, ◌<◌, ◌⊎◌, List, [], ◌∷◌, ◌++◌, length, map, replicate, take, drop, inl, inr, ⊎_elim, subst, sym, refl, ap, ◌∙◌, append_assoc, arith}
use Rattle.std.specs.Prelude.{slice_index}
use Rattle.std.proofs.Math.Seq.{take-add}
use Rattle.std.proofs.lemmas.List.{append_cancel_left, drop_at, ext_get_or, get_or-map, length-drop, length-map, length-replicate, length-take, length-take-le, map-append, take_at, take-append-drop}
use Rattle.selftimed.specs.declared.queue.Run.{Run}
use Rattle.selftimed.specs.inside.Runs.{no_run, run_at, ends_of, AreRuns, left_of, NoneEnded}
use Rattle.selftimed.proofs.RunsListEnds.{ends-more, ends-parts, none-ended}

-- ---- the times left of some runs, by firing

map-replicate : (f : ℕ → ℕ) (n x : ℕ) → map f (replicate n x) ≡ replicate n (f x)
map-replicate f zero x = refl
map-replicate f (suc n) x = ap (λ (xs : List ℕ). f x ∷ xs) (map-replicate f n x)

abbrev pub times_left : ℕ → List Run → List ℕ
times_left moment runs = map (λ e. e - moment) (ends_of runs)

pub left-more : (moment : ℕ) (runs : List Run) (k : ℕ) → k < length runs → times_left moment (take (k + 1) runs) ≡ times_left moment (take k runs) ++ replicate (run_at runs k).firings ((run_at runs k).end - moment)
left-more moment runs k below =
    ap (map (λ e. e - moment)) (ends-more runs k below) ∙ (map-append (λ (e : ℕ). e - moment) (ends_of (take k runs)) (replicate (run_at runs k).firings (run_at runs k).end)
    ∙ ap (λ (xs : List ℕ). times_left moment (take k runs) ++ xs) (map-replicate (λ (e : ℕ). e - moment) (run_at runs k).firings (run_at runs k).end))

pub left-parts : (moment : ℕ) (runs : List Run) (n : ℕ) → times_left moment (take n runs) ++ times_left moment (drop n runs) ≡ times_left moment runs
left-parts moment runs n = sym (map-append (λ (e : ℕ). e - moment) (ends_of (take n runs)) (ends_of (drop n runs))) ∙ ap (map (λ e. e - moment)) (ends-parts runs n)

module _ (moment : ℕ) (runs : List Run) (times : List ℕ) (k place : ℕ) (below : k < length runs) (within : place ≤ length times) (so_far : times_left moment (take k runs) ≡ take place times) where
  -- the times that follow begin with those of one more run
  pub left-begin : times_left moment runs ≡ times → take (run_at runs k).firings (drop place times) ≡ replicate (run_at runs k).firings ((run_at runs k).end - moment)
  left-begin same =
      let row : List ℕ = replicate (run_at runs k).firings ((run_at runs k).end - moment) in
      let rest : List ℕ = times_left moment (drop (k + 1) runs) in
      let all : take place times ++ (row ++ rest) ≡ times =
      sym (append_assoc (take place times) row rest) ∙ (ap (λ (xs : List ℕ). (xs ++ row) ++ rest) (sym so_far) ∙ (ap (λ (xs : List ℕ). xs ++ rest) (sym (left-more moment runs k below)) ∙ (left-parts moment runs (k + 1) ∙ same))) in
      let after : drop place times ≡ row ++ rest = ap (drop place) (sym all) ∙ drop_at (take place times) (row ++ rest) place (length-take-le place times within) in
      ap (take (run_at runs k).firings) after ∙ take_at row rest (run_at runs k).firings (length-replicate (run_at runs k).firings ((run_at runs k).end - moment))

  module _ (begin : take (run_at runs k).firings (drop place times) ≡ replicate (run_at runs k).firings ((run_at runs k).end - moment)) where
    pub left-within : place + (run_at runs k).firings ≤ length times
    left-within =
        let long : length (take (run_at runs k).firings (drop place times)) ≡ (run_at runs k).firings = ap length begin ∙ length-replicate (run_at runs k).firings ((run_at runs k).end - moment) in
        omega (arith, long, length-take (run_at runs k).firings (drop place times), length-drop place times, within)

    pub left-then : times_left moment (take (k + 1) runs) ≡ take (place + (run_at runs k).firings) times
    left-then =
        left-more moment runs k below ∙ (ap (λ (xs : List ℕ). xs ++ replicate (run_at runs k).firings ((run_at runs k).end - moment)) so_far
        ∙ (ap (λ (xs : List ℕ). take place times ++ xs) (sym begin) ∙ sym (take-add place (run_at runs k).firings times)))

-- ---- a first run and the later ones

pub left-first : (moment : ℕ) (first : Run) (later : List Run) → times_left moment (first ∷ later) ≡ replicate first.firings (first.end - moment) ++ times_left moment later
left-first moment first later =
    map-append (λ (e : ℕ). e - moment) (replicate first.firings first.end) (ends_of later) ∙ ap (λ (xs : List ℕ). xs ++ times_left moment later) (map-replicate (λ (e : ℕ). e - moment) first.firings first.end)

pub none-tail : (moment : ℕ) (first : Run) (later : List Run) → NoneEnded moment (first ∷ later) → NoneEnded moment later
none-tail moment first later past k below = past (suc k) (omega arith)

pub left-none : (moment : ℕ) (runs : List Run) (ends : List ℕ) → AreRuns runs → ends_of runs ≡ ends → ((k : ℕ) → k < length ends → moment ≤ slice_index ends k) → NoneEnded moment runs
left-none moment runs ends are is past = none-ended moment runs are (rw is past)

module _ (moment : ℕ) (first : Run) (later : List Run) (times : List ℕ) where
  pub first-begin : times_left moment (first ∷ later) ≡ times → take first.firings times ≡ replicate first.firings (first.end - moment)
  first-begin same =
      rw (← same, left-first moment first later) (take_at (replicate first.firings (first.end - moment)) (times_left moment later) first.firings (length-replicate first.firings (first.end - moment)))

  pub first-rest : times_left moment (first ∷ later) ≡ times → times_left moment later ≡ drop first.firings times
  first-rest same =
      rw (← same, left-first moment first later) (sym (drop_at (replicate first.firings (first.end - moment)) (times_left moment later) first.firings (length-replicate first.firings (first.end - moment))))

  pub first-whole : take first.firings times ≡ replicate first.firings (first.end - moment) → times_left moment later ≡ drop first.firings times → times_left moment (first ∷ later) ≡ times
  first-whole begin rest = left-first moment first later ∙ (ap (λ (xs : List ℕ). xs ++ times_left moment later) (sym begin) ∙ (ap (λ (xs : List ℕ). take first.firings times ++ xs) rest ∙ take-append-drop first.firings times))

-- ---- runs are told by their ends

abbrev BeginsWith : ℕ → List ℕ → Type 0
BeginsWith x xs = (rest : List ℕ) × (xs ≡ x ∷ rest)

peel : (x n m : ℕ) (xs ys : List ℕ) → replicate n x ++ xs ≡ replicate m x ++ ys → ((n ≡ m) × (xs ≡ ys)) ⊎ (BeginsWith x xs ⊎ BeginsWith x ys)
peel x zero zero xs ys same = inl (refl, same)
peel x zero (suc m) xs ys same = inr (inl (replicate m x ++ ys, same))
peel x (suc n) zero xs ys same = inr (inr (replicate n x ++ xs, sym same))
peel x (suc n) (suc m) xs ys same = ⊎_elim
    (λ (both : (n ≡ m) × (xs ≡ ys)). inl (ap suc both.0, both.1))
    (λ (more : BeginsWith x xs ⊎ BeginsWith x ys). inr more)
    (peel x n m xs ys cc)

-- the first firing of runs ends with the first run
first-end : (x : ℕ) (runs : List Run) → AreRuns runs → BeginsWith x (ends_of runs) → (0 < length runs) × ((run_at runs 0).end ≡ x)
first-end x [] are (rest, is) = cc
first-end x (r ∷ rs) are (rest, is) = (omega arith, front r.firings (are.some 0 (omega arith)) (ends_of rs) is)
  where
    front : (n : ℕ) → 0 < n → (more : List ℕ) → replicate n r.end ++ more ≡ x ∷ rest → r.end ≡ x
    front zero some more same = absurd (omega arith)
    front (suc n) some more same = cc

pub tail-runs : (r : Run) (rs : List Run) → AreRuns (r ∷ rs) → AreRuns rs
tail-runs r rs are = record {
  some = λ k h. are.some (suc k) (omega arith);
  apart = λ k h. let e : suc k + 1 ≡ suc (k + 1) = omega arith in rw e at (are.apart (suc k) (omega arith));
}

-- the run after the first one ends at another moment
next-apart : (r : Run) (rs : List Run) → AreRuns (r ∷ rs) → BeginsWith r.end (ends_of rs) → ⊥
next-apart r rs are begins =
    let next = first-end r.end rs (tail-runs r rs are) begins in
    are.apart 0 (omega (arith, next.0)) (sym next.1)

begins-first : (r : Run) (rs : List Run) → AreRuns (r ∷ rs) → BeginsWith r.end (ends_of (r ∷ rs))
begins-first r rs are = begins r.firings (are.some 0 (omega arith))
  where
    begins : (n : ℕ) → 0 < n → BeginsWith r.end (replicate n r.end ++ ends_of rs)
    begins zero some = absurd (omega arith)
    begins (suc n) some = (replicate n r.end ++ ends_of rs, refl)

run-is : (r s : Run) → r.end ≡ s.end → r.firings ≡ s.firings → r ≡ s
run-is r s ends firings =
    let run : ℕ → ℕ → Run = λ e n. record { end = e; firings = n } in
    ap (λ (e : ℕ). run e r.firings) ends ∙ ap (λ (n : ℕ). run s.end n) firings

pub ends-tell : (runs others : List Run) → AreRuns runs → AreRuns others → ends_of runs ≡ ends_of others → runs ≡ others
ends-tell [] [] are be same = refl
ends-tell [] (s ∷ ss) are be same = let begins = begins-first s ss be in let no : [] ≡ s.end ∷ begins.0 = same ∙ begins.1 in cc
ends-tell (r ∷ rs) [] are be same = let begins = begins-first r rs are in let no : [] ≡ r.end ∷ begins.0 = sym same ∙ begins.1 in cc
ends-tell (r ∷ rs) (s ∷ ss) are be same =
    let begins = begins-first r rs are in
    let first = first-end r.end (s ∷ ss) be (begins.0, sym same ∙ begins.1) in
    let ends : s.end ≡ r.end = first.1 in
    let alike : replicate r.firings r.end ++ ends_of rs ≡ replicate s.firings r.end ++ ends_of ss = subst (λ (e : ℕ). replicate r.firings r.end ++ ends_of rs ≡ replicate s.firings e ++ ends_of ss) ends same in
    ⊎_elim
    (λ (both : (r.firings ≡ s.firings) × (ends_of rs ≡ ends_of ss)).
    let heads : r ≡ s = run-is r s (sym ends) both.0 in
    let tails : rs ≡ ss = ends-tell rs ss (tail-runs r rs are) (tail-runs s ss be) both.1 in
    cc)
    (λ (more : BeginsWith r.end (ends_of rs) ⊎ BeginsWith r.end (ends_of ss)). ⊎_elim
    (λ (here : BeginsWith r.end (ends_of rs)). absurd (next-apart r rs are here))
    (λ (there : BeginsWith r.end (ends_of ss)). absurd (next-apart s ss be (subst (λ (e : ℕ). BeginsWith e (ends_of ss)) (sym ends) there)))
    more)
    (peel r.end r.firings s.firings (ends_of rs) (ends_of ss) alike)

-- ---- runs as times left

ends-left : (moment : ℕ) (runs : List Run) → times_left moment runs ≡ ends_of (map (left_of moment) runs)
ends-left moment [] = refl
ends-left moment (r ∷ rs) =
    map-append (λ (e : ℕ). e - moment) (replicate r.firings r.end) (ends_of rs) ∙ (ap (λ (xs : List ℕ). xs ++ times_left moment rs) (map-replicate (λ (e : ℕ). e - moment) r.firings r.end)
    ∙ ap (λ (xs : List ℕ). replicate r.firings (r.end - moment) ++ xs) (ends-left moment rs))

left-at : (moment : ℕ) (runs : List Run) (k : ℕ) → k < length runs → run_at (map (left_of moment) runs) k ≡ left_of moment (run_at runs k)
left-at moment runs k below = get_or-map (left_of moment) runs k no_run no_run below

runs-left : (moment : ℕ) (runs : List Run) → AreRuns runs → NoneEnded moment runs → AreRuns (map (left_of moment) runs)
runs-left moment runs are past = record {
  some = λ k below.
      let place : k < length runs = omega (arith, length-map runs (left_of moment)) in
      rw (left-at moment runs k place) (are.some k place);
  apart = λ k below same.
      let place : k + 1 < length runs = omega (arith, length-map runs (left_of moment)) in
      let here : k < length runs = omega arith in
      let ends : (run_at runs k).end - moment ≡ (run_at runs (k + 1)).end - moment = rw (left-at moment runs k here, left-at moment runs (k + 1) place) at same in
      are.apart k place (omega (arith, ends, past k here, past (k + 1) place));
}

-- the first n runs are as far from their ends at a moment as others at another one
abbrev pub LeftAgree : ℕ → List Run → ℕ → List Run → ℕ → Type 0
LeftAgree now runs then others n = (k : ℕ) → k < n → left_of now (run_at runs k) ≡ left_of then (run_at others k)

pub left-agree : (now : ℕ) (runs : List Run) (then : ℕ) (others : List Run) (n : ℕ) → length runs ≤ n → length runs ≡ length others → LeftAgree now runs then others n → times_left now runs ≡ times_left then others
left-agree now runs then others n whole long agree =
    ends-left now runs ∙ (ap ends_of (ext_get_or no_run (map (left_of now) runs) (map (left_of then) others)
    (length-map runs (left_of now) ∙ (long ∙ sym (length-map others (left_of then))))
    (λ k below.
    let place : k < length runs = rw (length-map runs (left_of now)) at below in
    left-at now runs k place ∙ (agree k (omega arith) ∙ sym (left-at then others k (omega arith)))))
    ∙ sym (ends-left then others))

pub left-heads : (now : ℕ) (first : Run) (later : List Run) (then : ℕ) (other : Run) (others : List Run) → left_of now first ≡ left_of then other → times_left now later ≡ times_left then others → times_left now (first ∷ later) ≡ times_left then (other ∷ others)
left-heads now first later then other others heads tails =
    left-first now first later ∙ (ap (λ (r : Run). replicate r.firings r.end ++ times_left now later) heads
    ∙ (ap (λ (xs : List ℕ). replicate other.firings (other.end - then) ++ xs) tails ∙ sym (left-first then other others)))

module _ (now : ℕ) (runs : List Run) (then : ℕ) (others : List Run) (are : AreRuns runs) (be : AreRuns others) (past : NoneEnded now runs) (over : NoneEnded then others) (same : times_left now runs ≡ times_left then others) where
  left-tell : map (left_of now) runs ≡ map (left_of then) others
  left-tell = ends-tell (map (left_of now) runs) (map (left_of then) others) (runs-left now runs are past) (runs-left then others be over) (sym (ends-left now runs) ∙ (same ∙ ends-left then others))

  pub left-long : length runs ≡ length others
  left-long = sym (length-map runs (left_of now)) ∙ (ap length left-tell ∙ length-map others (left_of then))

  pub left-same : (k : ℕ) → k < length runs → left_of now (run_at runs k) ≡ left_of then (run_at others k)
  left-same k below = sym (left-at now runs k below) ∙ (ap (λ (rs : List Run). run_at rs k) left-tell ∙ left-at then others k (omega (arith, left-long)))

module _ (now : ℕ) (first : Run) (later : List Run) (then : ℕ) (other : Run) (others : List Run) (are : AreRuns (first ∷ later)) (be : AreRuns (other ∷ others)) (past : NoneEnded now (first ∷ later)) (over : NoneEnded then (other ∷ others)) (same : times_left now (first ∷ later) ≡ times_left then (other ∷ others)) where
  pub heads-same : left_of now first ≡ left_of then other
  heads-same = left-same now (first ∷ later) then (other ∷ others) are be past over same 0 (omega arith)

  pub tails-same : times_left now later ≡ times_left then others
  tails-same =
      let front : replicate first.firings (first.end - now) ≡ replicate other.firings (other.end - then) = ap (λ (r : Run). replicate r.firings r.end) heads-same in
      append_cancel_left (replicate other.firings (other.end - then)) (times_left now later) (times_left then others)
      (ap (λ (xs : List ℕ). xs ++ times_left now later) (sym front) ∙ (sym (left-first now first later) ∙ (same ∙ left-first then other others)))
