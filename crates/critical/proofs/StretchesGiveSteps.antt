-- Stretches give the steps that they are kept for, one after another.
use Rattle.std.proofs.Common.{◌≡◌, ℕ, ◌+◌, ◌*◌, ◌^◌, ◌≤◌, ◌<◌, List, [], ◌∷◌, ◌++◌, length, take, drop, subst, sym, refl, ap, ◌∙◌, arith, append_assoc}
use Rattle.std.specs.Prelude.{slice_index_or, slice_set, set, flat_map, ◌==◌}
use Rattle.std.proofs.Math.Seq.{take-length}
use Rattle.std.proofs.lemmas.List.{take_more, take_more_set, length-set, flat_map_more, length-append, drop_all, take-append-drop, drop_more}
use Rattle.std.proofs.lemmas.Grind.{flat_map-append}
use Rattle.std.proofs.lemmas.List.FromFn.{length-map-range_with_len, get_or-map-range_with_len}
use Rattle.critical.specs.declared.cycle.CycleStep.{CycleStep}
use Rattle.critical.specs.declared.stretch.Stretch.{Stretch}
use Rattle.critical.specs.Stretches.{step_at, steps_in}
use Rattle.sd_base.specs.Net.{Net}
use Rattle.critical.specs.declared.cycle.FiringNo.{FiringNo}
use Rattle.critical.specs.Cycles.{IsChain, last_of, time_along}
use Rattle.critical.proofs.ChainsSplitAndJoin.{chain-front, chain-back, chain-both, last-both, time-both}

-- where the last piece of a list gets one element more, so does the whole
pub last-longer : {X A : Type 0} (f : X → List A) (xs : List X) (n : ℕ) (y d : X) (a : A) → n + 1 ≡ length xs → f y ≡ f (slice_index_or xs n d) ++ a ∷ [] → flat_map f (slice_set xs n y) ≡ flat_map f xs ++ a ∷ []
last-longer {A = A} f xs n y d a long more =
    let was : take n xs ++ slice_index_or xs n d ∷ [] ≡ xs =
    sym (take_more xs n d (omega arith)) ∙ subst (λ (k : ℕ). take k xs ≡ xs) (sym long) (take-length xs) in
    let is : slice_set xs n y ≡ take n xs ++ y ∷ [] =
    sym (subst (λ (k : ℕ). take k (set xs n y) ≡ set xs n y) (length-set xs n y ∙ sym long) (take-length (set xs n y))) ∙ take_more_set xs n y (omega arith) in
    ap (flat_map f) is
    ∙ sym (flat_map_more f [] (take n xs) y)
    ∙ ap (λ (zs : List A). flat_map f (take n xs) ++ zs) more
    ∙ sym (append_assoc (flat_map f (take n xs)) (f (slice_index_or xs n d)) (a ∷ []))
    ∙ ap (λ (zs : List A). zs ++ a ∷ []) (flat_map_more f [] (take n xs) (slice_index_or xs n d) ∙ ap (flat_map f) was)

-- a stretch has as many steps as its count
pub length-stretch : (s : Stretch) → length (steps_in s) ≡ s.count
length-stretch s = length-map-range_with_len (step_at s) 0 s.count

-- there are stretches where there are steps
pub none-where_none : (xs : List Stretch) → (length xs == 0) ≡ (length (flat_map steps_in xs) == 0)
none-where_none [] = refl
none-where_none (x ∷ xs) =
    let some : 0 < length (steps_in x ++ flat_map steps_in xs) = omega (arith, length-append (steps_in x) (flat_map steps_in xs), length-stretch x, x.some) in
    grind arith

-- the step at a place of a stretch comes first among those from there on
pub stretch-split : (s : Stretch) (i : ℕ) (step : CycleStep) → i < s.count → step ≡ step_at s i → drop i (steps_in s) ≡ step ∷ drop (i + 1) (steps_in s)
stretch-split s i step below is =
    drop_more (steps_in s) i step (omega (arith, length-stretch s))
    ∙ ap (λ (x : CycleStep). x ∷ drop (i + 1) (steps_in s)) (get_or-map-range_with_len (step_at s) 0 s.count i i step below (omega arith) ∙ sym is)

-- no step is left behind the last one
pub stretch-end : (s : Stretch) (i : ℕ) → s.count ≤ i → drop i (steps_in s) ≡ []
stretch-end s i late = drop_all i (steps_in s) (omega (arith, length-stretch s))

-- the steps of one more stretch
pub stretches-more : (xs : List Stretch) (i : ℕ) (x : Stretch) → i < length xs → slice_index_or xs i x ≡ x → flat_map steps_in (take (i + 1) xs) ≡ flat_map steps_in (take i xs) ++ steps_in x
stretches-more xs i x below is = ap (flat_map steps_in) (take_more xs i x below ∙ ap (λ (s : Stretch). take i xs ++ s ∷ []) is) ∙ sym (flat_map_more steps_in [] (take i xs) x)

-- the steps of the stretches from a place on
pub stretches-split : (xs : List Stretch) (i : ℕ) → flat_map steps_in xs ≡ flat_map steps_in (take i xs) ++ flat_map steps_in (drop i xs)
stretches-split xs i = ap (flat_map steps_in) (sym (take-append-drop i xs)) ∙ flat_map-append steps_in (take i xs) (drop i xs)

-- no chain goes on along the stretches where it doesn't along the next one
pub chain-stops : (net : Net) (from : FiringNo) (xs : List Stretch) (i : ℕ) (x : Stretch) → i < length xs → slice_index_or xs i x ≡ x →
    ¬ IsChain net (last_of from (flat_map steps_in (take i xs))) (steps_in x) → ¬ IsChain net from (flat_map steps_in xs)
chain-stops net from xs i x below is stops chain =
    stops (chain-back net from (flat_map steps_in (take i xs)) (steps_in x)
    (subst (IsChain net from) (stretches-more xs i x below is)
    (chain-front net from (flat_map steps_in (take (i + 1) xs)) (flat_map steps_in (drop (i + 1) xs)) (subst (IsChain net from) (stretches-split xs (i + 1)) chain))))

-- a chain goes on along the next stretch
pub record GoesOn (net : Net) (from : FiringNo) (steps : List CycleStep) (at : FiringNo) (t i : ℕ) : Type 0 where
  pub chain : IsChain net from steps
  pub last : at ≡ last_of from steps
  pub time : t ≡ time_along net from steps
  pub small : t ≤ i * 2 ^ 62

pub goes-on_more : (net : Net) (from : FiringNo) (xs : List Stretch) (i : ℕ) (x : Stretch) (last next : FiringNo) (time later : ℕ) → i < length xs → slice_index_or xs i x ≡ x →
    GoesOn net from (flat_map steps_in (take i xs)) last time i → IsChain net last (steps_in x) → next ≡ last_of last (steps_in x) → later ≡ time + time_along net last (steps_in x) → later ≤ time + 2 ^ 62 →
    GoesOn net from (flat_map steps_in (take (i + 1) xs)) next later (i + 1)
goes-on_more net from xs i x last next time later below is so_far leads ends takes short =
    let done : List CycleStep = flat_map steps_in (take i xs) in
    let here : last_of from done ≡ last = sym so_far.last in
    subst (λ (steps : List CycleStep). GoesOn net from steps next later (i + 1)) (sym (stretches-more xs i x below is))
    (record {
      chain = chain-both net from done (steps_in x) so_far.chain (subst (λ (at : FiringNo). IsChain net at (steps_in x)) so_far.last leads);
      last = ends ∙ ap (λ (at : FiringNo). last_of at (steps_in x)) so_far.last ∙ sym (last-both net from done (steps_in x));
      time =
          let front : time ≡ time_along net from done = so_far.time in
          let both : time_along net from (done ++ steps_in x) ≡ time_along net from done + time_along net (last_of from done) (steps_in x) = time-both net from done (steps_in x) in
          let back : time_along net (last_of from done) (steps_in x) ≡ time_along net last (steps_in x) = ap (λ (at : FiringNo). time_along net at (steps_in x)) here in
          omega arith;
      small = omega (arith, so_far.small);
    })
