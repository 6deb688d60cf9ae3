-- The greatest rates of points by their storage.
use Rattle.std.proofs.Common.{◌≡◌, ℕ, ◌+◌, ◌-◌, ◌*◌, ◌≤◌, ◌<◌, ◌↔◌, ◌⊎◌, List, [], ◌∷◌, ◌++◌, length, inl, inr, ⊎_elim, sym, refl, subst, ap, ◌∙◌, arith, length-append, mul-le-mul_left}
use Rattle.std.specs.List.{Contains}
use Rattle.std.specs.List.Sorted.{IsNonDecreasingBy, IsPermutation}
use Rattle.std.specs.Prelude.{slice_index_or}
use Rattle.std.proofs.lemmas.Bool.{cases_lt}
use Rattle.std.proofs.lemmas.List.Sorted.{Contains-permutation, IsPermutation-sym}
use Rattle.std.proofs.Math.ListN.{get_or-append}
use Rattle.std.proofs.Math.Nat.{le_of_mul-le-mul_left}
use Rattle.std.proofs.Math.Seq.{get_or-append_seam}
use Rattle.std.proofs.lemmas.List.{get_or_default}
use Rattle.cert_text.specs.declared.certificates.PointLine.{PointLine}
use Rattle.cert_checker.specs.declared.best_rates.Best.{Best}
use Rattle.cert_checker.specs.declared.best_rates.BestRates.{BestRates}
use Rattle.cert_checker.specs.StorageCertificates.{point_at}
use Rattle.cert_checker.specs.inside.BelowPoints.{HasBelow}
use Rattle.cert_checker.specs.inside.Bests.{AreBest, AreBestRates, ArePositive, HasUpTo, IsAtMost, IsBestAt, IsSplit, best_at, no_best}

-- ---- rates in order

pub at-most-trans : (p q r : ℕ × ℕ) → 1 ≤ q.1 → IsAtMost p q → IsAtMost q r → IsAtMost p r
at-most-trans p q r some one two =
    let up : r.1 * (p.0 * q.1) ≤ r.1 * (q.0 * p.1) = mul-le-mul_left r.1 one in
    let on : p.1 * (q.0 * r.1) ≤ p.1 * (r.0 * q.1) = mul-le-mul_left p.1 two in
    let same : r.1 * (q.0 * p.1) ≡ p.1 * (q.0 * r.1) = omega arith in
    let left : q.1 * (p.0 * r.1) ≡ r.1 * (p.0 * q.1) = omega arith in
    let right : q.1 * (r.0 * p.1) ≡ p.1 * (r.0 * q.1) = omega arith in
    let all : q.1 * (p.0 * r.1) ≤ q.1 * (r.0 * p.1) = omega (arith, up, on, same, left, right) in
    le_of_mul-le-mul_left all some

-- ---- the points

-- one of the first n points has no more than a storage, and no less than a rate
abbrev pub HasBelowFirst : List PointLine → ℕ → ℕ → ℕ × ℕ → Type 0
HasBelowFirst points n storage rate =
    (k : ℕ) × (k < n) × (1 ≤ (point_at points k).rate.1) × ((point_at points k).total ≤ storage)
    × (rate.0 * (point_at points k).rate.1 ≤ (point_at points k).rate.0 * rate.1)

-- the rates of the first n points
pub record AreRates (points : List PointLine) (n : ℕ) (rates : List Best) : Type 0 where
  pub positive : ArePositive rates
  pub same : (storage : ℕ) (rate : ℕ × ℕ) → HasUpTo rates storage rate ↔ HasBelowFirst points n storage rate

pub rates-none : (points : List PointLine) (rates : List Best) → rates ≡ [] → AreRates points 0 rates
rates-none points rates empty = record {
  positive = λ k below. absurd (let none : length rates ≡ 0 = ap length empty in omega (arith, below, none));
  same = λ storage rate. (
    λ has. absurd (let none : length rates ≡ 0 = ap length empty in omega (arith, has.1, none)),
    λ has. absurd (omega (arith, has.1)),
  );
}

-- a point without a rate
pub rates-skip : (points : List PointLine) (n : ℕ) (rates : List Best) → (point_at points n).rate.1 ≡ 0 → AreRates points n rates → AreRates points (n + 1) rates
rates-skip points n rates none before = record {
  positive = before.positive;
  same = λ storage rate. (
    λ has. (let at = (before.same storage rate).0 has in (at.0, omega (arith, at.1), at.2, at.3, at.4)),
    λ at. ⊎_elim
        (λ (less : at.0 < n). (before.same storage rate).1 (at.0, less, at.2, at.3, at.4))
        (λ (past : n ≤ at.0).
        let same : at.0 ≡ n = omega (arith, past, at.1) in
        let zero_rate : (point_at points at.0).rate.1 ≡ 0 = ap (λ (k : ℕ). (point_at points k).rate.1) same ∙ none in
        absurd (omega (arith, zero_rate, at.2)))
        (cases_lt at.0 n),
  );
}

-- one with a rate
pub rates-push : (points : List PointLine) (n : ℕ) (rates new : List Best) (b : Best) → b ≡ record { storage = (point_at points n).total; rate = (point_at points n).rate } → 1 ≤ (point_at points n).rate.1
    → new ≡ rates ++ b ∷ [] → AreRates points n rates → AreRates points (n + 1) new
rates-push points n rates new b is some pushed before = subst (AreRates points (n + 1)) (sym pushed) (record { positive = positive; same = same })
  where
    size : length (rates ++ b ∷ []) ≡ length rates + 1
    size = length-append rates (b ∷ [])

    first : (k : ℕ) → k < length rates → best_at (rates ++ b ∷ []) k ≡ best_at rates k
    first k below = get_or-append rates (b ∷ []) no_best k below

    last : best_at (rates ++ b ∷ []) (length rates) ≡ record { storage = (point_at points n).total; rate = (point_at points n).rate }
    last = get_or-append_seam rates b [] no_best ∙ is

    positive : ArePositive (rates ++ b ∷ [])
    positive k below = ⊎_elim
        (λ (less : k < length rates). subst (λ (x : Best). 1 ≤ x.rate.1) (sym (first k less)) (before.positive k less))
        (λ (past : length rates ≤ k).
        let end : k ≡ length rates = omega (arith, past, below, size) in
        subst (λ (j : ℕ). 1 ≤ (best_at (rates ++ b ∷ []) j).rate.1) (sym end) (subst (λ (x : Best). 1 ≤ x.rate.1) (sym last) some))
        (cases_lt k (length rates))

    same : (storage : ℕ) (rate : ℕ × ℕ) → HasUpTo (rates ++ b ∷ []) storage rate ↔ HasBelowFirst points (n + 1) storage rate
    same storage rate = (
      λ has. ⊎_elim
          (λ (less : has.0 < length rates).
          let old : HasUpTo rates storage rate = (has.0, less, subst (λ (x : Best). x.storage ≤ storage) (first has.0 less) has.2, subst (λ (x : Best). IsAtMost rate x.rate) (first has.0 less) has.3) in
          let at = (before.same storage rate).0 old in
          (at.0, omega (arith, at.1), at.2, at.3, at.4))
          (λ (past : length rates ≤ has.0).
          let end : has.0 ≡ length rates = omega (arith, past, has.1, size) in
          let there = ap (best_at (rates ++ b ∷ [])) end ∙ last in
          (n, omega arith, some, subst (λ (x : Best). x.storage ≤ storage) there has.2, subst (λ (x : Best). IsAtMost rate x.rate) there has.3))
          (cases_lt has.0 (length rates)),
      λ at. ⊎_elim
          (λ (less : at.0 < n).
          let old = (before.same storage rate).1 (at.0, less, at.2, at.3, at.4) in
          (old.0, omega (arith, old.1, size), subst (λ (x : Best). x.storage ≤ storage) (sym (first old.0 old.1)) old.2, subst (λ (x : Best). IsAtMost rate x.rate) (sym (first old.0 old.1)) old.3))
          (λ (past : n ≤ at.0).
          let here : at.0 ≡ n = omega (arith, past, at.1) in (
            length rates,
            omega (arith, size),
            subst (λ (x : Best). x.storage ≤ storage) (sym last) (subst (λ (k : ℕ). (point_at points k).total ≤ storage) here at.3),
            subst (λ (x : Best). IsAtMost rate x.rate) (sym last) (subst (λ (k : ℕ). rate.0 * (point_at points k).rate.1 ≤ (point_at points k).rate.0 * rate.1) here at.4),
          ))
          (cases_lt at.0 n),
    )

-- ---- the same in another order

moved : (xs ys : List Best) → IsPermutation xs ys → (k : ℕ) → k < length xs → (j : ℕ) × (j < length ys) × (best_at ys j ≡ best_at xs k)
moved xs ys permutation k below =
    let has : Contains xs (best_at xs k) = (k, below, get_or_default xs k (best_at xs k) no_best below) in
    let at = Contains-permutation xs ys (best_at xs k) permutation has in
    (at.0, at.1, get_or_default ys at.0 no_best (best_at xs k) at.1 ∙ at.2)

pub moved-up-to : (xs ys : List Best) → IsPermutation xs ys → (storage : ℕ) (rate : ℕ × ℕ) → HasUpTo xs storage rate → HasUpTo ys storage rate
moved-up-to xs ys permutation storage rate (k, below, small, fast) =
    let at = moved xs ys permutation k below in
    (at.0, at.1, subst (λ (x : Best). x.storage ≤ storage) (sym at.2) small, subst (λ (x : Best). IsAtMost rate x.rate) (sym at.2) fast)

pub moved-positive : (xs ys : List Best) → IsPermutation xs ys → ArePositive xs → ArePositive ys
moved-positive xs ys permutation positive k below =
    let at = moved ys xs (IsPermutation-sym xs ys permutation) k below in
    subst (λ (x : Best). 1 ≤ x.rate.1) at.2 (positive at.0 at.1)

pub moved-same : (points : List PointLine) (xs ys : List Best) → IsPermutation xs ys → ((storage : ℕ) (rate : ℕ × ℕ) → HasUpTo xs storage rate ↔ HasBelow points storage rate)
    → (storage : ℕ) (rate : ℕ × ℕ) → HasUpTo ys storage rate ↔ HasBelow points storage rate
moved-same points xs ys permutation same storage rate = (
  λ has. (same storage rate).0 (moved-up-to ys xs (IsPermutation-sym xs ys permutation) storage rate has),
  λ has. moved-up-to xs ys permutation storage rate ((same storage rate).1 has),
)

-- ---- the greatest up to each

-- the first n, and the greatest rate of these
pub record AreBestBelow (list : List Best) (n : ℕ) (steps : List Best) (greatest : ℕ × ℕ) : Type 0 where
  pub size : length steps ≡ n
  pub each : (k : ℕ) → k < n → IsBestAt list k (best_at steps k)
  pub positive : 1 ≤ greatest.1
  pub most : (j : ℕ) → j < n → IsAtMost (best_at list j).rate greatest
  pub one : ((n ≡ 0) × (greatest ≡ (0, 1))) ⊎ ((place : ℕ) × (place < n) × ((best_at list place).rate ≡ greatest))

pub best-none : (list steps : List Best) → steps ≡ [] → AreBestBelow list 0 steps (0, 1)
best-none list steps empty = record {
  size = ap length empty;
  each = λ k below. absurd (omega (arith, below));
  positive = omega arith;
  most = λ j below. absurd (omega (arith, below));
  one = inl (refl, refl);
}

pub best-more : (list : List Best) (n : ℕ) (steps new : List Best) (old greatest : ℕ × ℕ) → n < length list → ArePositive list → AreBestBelow list n steps old
    → IsAtMost old greatest → IsAtMost (best_at list n).rate greatest
    → (IsAtMost old (best_at list n).rate × (greatest ≡ (best_at list n).rate)) ⊎ ((IsAtMost old (best_at list n).rate → ⊥) × (greatest ≡ old))
    → new ≡ steps ++ record { storage = (best_at list n).storage; rate = greatest } ∷ [] → AreBestBelow list (n + 1) new greatest
best-more list n steps new old greatest below positive before up here choice pushed = subst (λ (x : List Best). AreBestBelow list (n + 1) x greatest) (sym pushed) (record {
  size = length-append steps (b ∷ []) ∙ (let e : length steps + 1 ≡ n + 1 = omega (arith, before.size) in e);
  each = each;
  positive = some;
  most = most;
  one = inr (chosen.0, omega (arith, chosen.1), chosen.2);
})
  where
    b : Best
    b = record { storage = (best_at list n).storage; rate = greatest }

    some : 1 ≤ greatest.1
    some = ⊎_elim
        (λ (c : IsAtMost old (best_at list n).rate × (greatest ≡ (best_at list n).rate)). subst (λ (r : ℕ × ℕ). 1 ≤ r.1) (sym c.1) (positive n below))
        (λ (c : (IsAtMost old (best_at list n).rate → ⊥) × (greatest ≡ old)). subst (λ (r : ℕ × ℕ). 1 ≤ r.1) (sym c.1) before.positive)
        choice

    most : (j : ℕ) → j < n + 1 → IsAtMost (best_at list j).rate greatest
    most j within = ⊎_elim
        (λ (less : j < n). at-most-trans (best_at list j).rate old greatest before.positive (before.most j less) up)
        (λ (past : n ≤ j). let same : j ≡ n = omega (arith, past, within) in subst (λ (i : ℕ). IsAtMost (best_at list i).rate greatest) (sym same) here)
        (cases_lt j n)

    chosen : (place : ℕ) × (place < n + 1) × ((best_at list place).rate ≡ greatest)
    chosen = ⊎_elim
        (λ (c : IsAtMost old (best_at list n).rate × (greatest ≡ (best_at list n).rate)). (n, omega arith, sym c.1))
        (λ (c : (IsAtMost old (best_at list n).rate → ⊥) × (greatest ≡ old)). ⊎_elim
        (λ (first : (n ≡ 0) × (old ≡ (0, 1))). absurd (c.0 (subst (λ (r : ℕ × ℕ). IsAtMost r (best_at list n).rate) (sym first.1) (omega arith))))
        (λ (earlier : (place : ℕ) × (place < n) × ((best_at list place).rate ≡ old)). (earlier.0, omega (arith, earlier.1), earlier.2 ∙ sym c.1))
        before.one)
        choice

    each : (k : ℕ) → k < n + 1 → IsBestAt list k (best_at (steps ++ b ∷ []) k)
    each k within = ⊎_elim
        (λ (less : k < n). let at : k < length steps = omega (arith, less, before.size) in subst (IsBestAt list k) (sym (get_or-append steps (b ∷ []) no_best k at)) (before.each k less))
        (λ (past : n ≤ k).
        let same : k ≡ n = omega (arith, past, within) in
        let end : k ≡ length steps = omega (arith, same, before.size) in
        let is : best_at (steps ++ b ∷ []) k ≡ b = ap (best_at (steps ++ b ∷ [])) end ∙ get_or-append_seam steps b [] no_best in
        subst (IsBestAt list k) (sym is) (subst (λ (i : ℕ). IsBestAt list i b) (sym same) (record {
          storage = refl;
          positive = some;
          place = chosen.0;
          within = omega (arith, chosen.1);
          is = chosen.2;
          greatest = λ j small. most j (omega (arith, small));
        })))
        (cases_lt k n)

-- the same of an element by another default
pub best-more-at : (list : List Best) (n : ℕ) (d : Best) (steps new : List Best) (old greatest : ℕ × ℕ) → n < length list → ArePositive list → AreBestBelow list n steps old
    → IsAtMost old greatest → IsAtMost (slice_index_or list n d).rate greatest
    → (IsAtMost old (slice_index_or list n d).rate × (greatest ≡ (slice_index_or list n d).rate)) ⊎ ((IsAtMost old (slice_index_or list n d).rate → ⊥) × (greatest ≡ old))
    → new ≡ steps ++ record { storage = (slice_index_or list n d).storage; rate = greatest } ∷ [] → AreBestBelow list (n + 1) new greatest
best-more-at list n d steps new old greatest below positive before up here choice pushed =
    let same : slice_index_or list n d ≡ best_at list n = get_or_default list n d no_best below in
    best-more list n steps new old greatest below positive before up (subst (λ (x : Best). IsAtMost x.rate greatest) same here)
    (subst (λ (x : Best). (IsAtMost old x.rate × (greatest ≡ x.rate)) ⊎ ((IsAtMost old x.rate → ⊥) × (greatest ≡ old))) same choice)
    (subst (λ (x : Best). new ≡ steps ++ record { storage = x.storage; rate = greatest } ∷ []) same pushed)

-- ---- look-ups

-- the steps are in order of their storage too
pub steps-in-order : (list steps : List Best) → AreBest list steps → IsNonDecreasingBy (λ (b : Best). b.storage) list → IsNonDecreasingBy (λ (b : Best). b.storage) steps
steps-in-order list steps are order i j d small below =
    let one : (best_at list i).storage ≤ (best_at list j).storage = order i j no_best small (omega (arith, below, are.size)) in
    let first = get_or_default steps i d no_best (omega (arith, small, below)) in
    let second = get_or_default steps j d no_best below in
    let a = (are.each i (omega (arith, small, below))).storage in
    let b = (are.each j below).storage in
    let c : (best_at steps i).storage ≤ (best_at steps j).storage = omega (arith, one, a, b) in
    subst (λ (x : Best). x.storage ≤ (slice_index_or steps j d).storage) (sym first) (subst (λ (x : Best). (best_at steps i).storage ≤ x.storage) (sym second) c)

-- a search by halves, one step on
pub split-few : (steps : List Best) (storage few enough middle : ℕ) (d : Best) → IsNonDecreasingBy (λ (b : Best). b.storage) steps → middle < length steps → (slice_index_or steps middle d).storage ≤ storage
    → IsSplit steps storage few enough → IsSplit steps storage (middle + 1) enough
split-few steps storage few enough middle d order below small before =
    let here : (best_at steps middle).storage ≤ storage = subst (λ (x : Best). x.storage ≤ storage) (get_or_default steps middle d no_best below) small in record {
      below = λ k within. (let up : (best_at steps k).storage ≤ (best_at steps middle).storage = order k middle no_best (omega (arith, within)) below in omega (arith, up, here));
      above = before.above;
    }

pub split-enough : (steps : List Best) (storage few enough middle : ℕ) (d : Best) → IsNonDecreasingBy (λ (b : Best). b.storage) steps → middle < length steps → storage < (slice_index_or steps middle d).storage
    → IsSplit steps storage few enough → IsSplit steps storage few middle
split-enough steps storage few enough middle d order inside more before =
    let here : storage < (best_at steps middle).storage = subst (λ (x : Best). storage < x.storage) (get_or_default steps middle d no_best inside) more in record {
      below = before.below;
      above = λ k past below. (let up : (best_at steps middle).storage ≤ (best_at steps k).storage = order middle k no_best past below in omega (arith, up, here));
    }

-- what the greatest rate up to a storage tells
pub best-tells : (points : List PointLine) (best : BestRates) → AreBestRates points best → (storage : ℕ) (rate : ℕ × ℕ) (count : ℕ) → count ≤ length best.steps.items → IsSplit best.steps.items storage count count
    → ((1 ≤ count) × IsAtMost rate (best_at best.steps.items (count - 1)).rate) ↔ HasBelow points storage rate
best-tells points best are storage rate count within split = (
  λ at.
      (let top = are.are.each (count - 1) (omega (arith, at.0, within)) in
      let few : top.place < length best.steps.items = omega (arith, top.within, at.0, within) in
      let small : (best_at are.list top.place).storage ≤ storage = (let a = split.below top.place (omega (arith, top.within, at.0)) in let b = (are.are.each top.place few).storage in omega (arith, a, b)) in
      (are.same storage rate).0 (top.place, omega (arith, few, are.are.size), small, subst (λ (r : ℕ × ℕ). IsAtMost rate r) (sym top.is) at.1)),
  λ has.
      (let up = (are.same storage rate).1 has in
      let there : up.0 < length best.steps.items = omega (arith, up.1, are.are.size) in
      let inside : up.0 < count = ⊎_elim
      (λ (less : up.0 < count). less)
      (λ (past : count ≤ up.0). absurd (let a = split.above up.0 past there in let b = (are.are.each up.0 there).storage in omega (arith, a, b, up.2)))
      (cases_lt up.0 count) in
      let top = are.are.each (count - 1) (omega (arith, inside, within)) in
      (omega (arith, inside), at-most-trans rate (best_at are.list up.0).rate (best_at best.steps.items (count - 1)).rate (are.positive up.0 up.1) up.3 (top.greatest up.0 (omega (arith, inside))))),
)

-- what a search among them tells
pub best-found : (points : List PointLine) (best : BestRates) (storage : ℕ) (rate : ℕ × ℕ) (steps : List Best) (count : ℕ) → steps ≡ best.steps.items → count ≤ length steps
    → (IsNonDecreasingBy (λ (b : Best). b.storage) steps → IsSplit steps storage count count) → AreBestRates points best → ((1 ≤ count) × IsAtMost rate (best_at best.steps.items (count - 1)).rate) ↔ HasBelow points storage rate
best-found points best storage rate steps count same within split are =
    let order : IsNonDecreasingBy (λ (b : Best). b.storage) best.steps.items = steps-in-order are.list best.steps.items are.are are.order in
    let here : IsSplit steps storage count count = split (subst (λ (l : List Best). IsNonDecreasingBy (λ (b : Best). b.storage) l) (sym same) order) in
    let inside : count ≤ length best.steps.items = subst (λ (l : List Best). count ≤ length l) same within in
    best-tells points best are storage rate count inside (subst (λ (l : List Best). IsSplit l storage count count) same here)
