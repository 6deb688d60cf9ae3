-- Among more numbers than there are values two have the same value.
use Rattle.std.proofs.Common.{◌≡◌, ℕ, zero, suc, ◌<◌, ◌⊎◌, inl, inr, ⊎_elim, refl, sym, ◌∙◌, arith}
use Rattle.std.proofs.lemmas.Bool.{cases_eq}

-- one of the first k values is v, or none is
IsAmong : (ℕ → ℕ) → ℕ → ℕ → Type 0
IsAmong f v k = ((i : ℕ) × (i < k) × (f i ≡ v)) ⊎ ((i : ℕ) → i < k → f i ≡ v → ⊥)

among : (f : ℕ → ℕ) (v k : ℕ) → IsAmong f v k
unfolding IsAmong
among f v zero = inr (λ i below same. absurd (omega arith))
among f v (suc k) = step (among f v k) (cases_eq (f k) v)
  where
    step : IsAmong f v k → (f k ≡ v) ⊎ (f k ≡ v → ⊥) → IsAmong f v (suc k)
    step (inl (i, below, same)) test = inl (i, omega arith, same)
    step (inr none) (inl here) = inl (k, omega arith, here)
    step (inr none) (inr other) = inr (λ i below same. ⊎_elim
        (λ (last : i ≡ k). other (rw (← last) same))
        (λ (apart : i ≡ k → ⊥). none i (omega arith) same)
        (cases_eq i k))

-- the value y is v where x is m, and else x
record IsMoved (m v x y : ℕ) : Type 0 where
  case : ((x ≡ m) × (y ≡ v)) ⊎ ((x ≡ m → ⊥) × (y ≡ x))

moved : (m v x : ℕ) → (y : ℕ) × IsMoved m v x y
moved m v x = ⊎_elim
    (λ (is : x ≡ m). (v, record { case = inl (is, refl) }))
    (λ (other : x ≡ m → ⊥). (x, record { case = inr (other, refl) }))
    (cases_eq x m)

-- values below m + 1, of which none before the last is that of the last: with it in the place of m they are below m
small : (m v x y : ℕ) → IsMoved m v x y → x < suc m → v < suc m → (x ≡ v → ⊥) → y < m
small m v x y is below last apart = ⊎_elim
    (λ (here : (x ≡ m) × (y ≡ v)). let other : v ≡ m → ⊥ = λ one. apart (here.0 ∙ sym one) in omega (arith, here.1, other, last))
    (λ (there : (x ≡ m → ⊥) × (y ≡ x)). omega (arith, there.1, there.0, below))
    is.case

-- and no two of them become the same
kept : (m v x y z w : ℕ) → IsMoved m v x y → IsMoved m v z w → (x ≡ v → ⊥) → (z ≡ v → ⊥) → y ≡ w → x ≡ z
kept m v x y z w one other first second same = ⊎_elim
    (λ (here : (x ≡ m) × (y ≡ v)). ⊎_elim
    (λ (at : (z ≡ m) × (w ≡ v)). here.0 ∙ sym at.0)
    (λ (off : (z ≡ m → ⊥) × (w ≡ z)). absurd (second (sym off.1 ∙ (sym same ∙ here.1))))
    other.case)
    (λ (there : (x ≡ m → ⊥) × (y ≡ x)). ⊎_elim
    (λ (at : (z ≡ m) × (w ≡ v)). absurd (first (sym there.1 ∙ (same ∙ at.1))))
    (λ (off : (z ≡ m → ⊥) × (w ≡ z)). sym there.1 ∙ (same ∙ off.1))
    other.case)
    one.case

-- two of the first n values are the same
pub record AreTwoAlike (f : ℕ → ℕ) (n : ℕ) : Type 0 where
  pub first : ℕ
  pub second : ℕ
  pub order : first < second
  pub within : second < n
  pub same : f first ≡ f second

pub two-alike : (m n : ℕ) (f : ℕ → ℕ) → ((i : ℕ) → i < n → f i < m) → m < n → AreTwoAlike f n
unfolding IsAmong
two-alike zero n f below more = absurd (omega (arith, below 0 more))
two-alike (suc m) zero f below more = absurd (omega arith)
two-alike (suc m) (suc n) f below more = step (two-alike m n) (among f (f n) n)
  where
    g : ℕ → ℕ
    g i = (moved m (f n) (f i)).0

    step : ((h : ℕ → ℕ) → ((i : ℕ) → i < n → h i < m) → m < n → AreTwoAlike h n) → IsAmong f (f n) n → AreTwoAlike f (suc n)
    step among_fewer (inl (i, before, same)) = record { first = i; second = n; order = before; within = omega arith; same = same }
    step among_fewer (inr none) =
        let two : AreTwoAlike g n = among_fewer g (λ i before. small m (f n) (f i) (g i) (moved m (f n) (f i)).1 (below i (omega (arith, before))) (below n (omega arith)) (none i before)) (omega (arith, more)) in
        let before : two.first < n = omega (arith, two.order, two.within) in
        record {
          first = two.first;
          second = two.second;
          order = two.order;
          within = omega (arith, two.within);
          same = kept m (f n) (f two.first) (g two.first) (f two.second) (g two.second) (moved m (f n) (f two.first)).1 (moved m (f n) (f two.second)).1
              (none two.first before) (none two.second two.within) two.same;
        }
