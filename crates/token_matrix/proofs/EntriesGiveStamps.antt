-- An entry of a row gives what the row gives of a list of stamps, unless it has none, and no entry gives more.
use Rattle.std.proofs.Common.{◌≡◌, ℕ, zero, suc, ◌+◌, ◌≤◌, ◌<◌, ◌⊎◌, max, List, [], ◌∷◌, length, Option, Some, None, refl, inl, inr, arith}
use Rattle.std.specs.Prelude.{slice_index, slice_index_or}
use Rattle.std.proofs.lemmas.Bool.{cases_lt}
use Rattle.std.proofs.lemmas.List.{get_or-map}
use Rattle.token_matrix.specs.Matrices.{apply_row, applied, greatest}

pub row-least : (row : List (Option ℕ)) (x : List ℕ) (i e : ℕ) → slice_index_or row i None ≡ Some e → i < length x → slice_index x i + e ≤ apply_row row x
row-least [] x i e h b = absurd (cc)
row-least (o ∷ row) [] i e h b = absurd (let no : ⊥ = omega arith in no)
row-least (None ∷ row) (s ∷ x) zero e h b = absurd (cc)
row-least (None ∷ row) (s ∷ x) (suc i) e h b = row-least row x i e h (let g : i < length x = omega arith in g)
row-least (Some d ∷ row) (s ∷ x) zero e h b = let same : d ≡ e = (cc) in omega (arith, same)
row-least (Some d ∷ row) (s ∷ x) (suc i) e h b =
    let r : slice_index x i + e ≤ apply_row row x = row-least row x i e h (let g : i < length x = omega arith in g) in omega arith

-- the entry that gives what a row gives, or there is none
pub record Gives (row : List (Option ℕ)) (x : List ℕ) : Type 0 where
  pub i : ℕ
  pub e : ℕ
  pub within : i < length x
  pub entry : slice_index_or row i None ≡ Some e
  pub is : slice_index x i + e ≡ apply_row row x

pub row-gives : (row : List (Option ℕ)) (x : List ℕ) → length row ≡ length x → Gives row x ⊎ (((i e : ℕ) → slice_index_or row i None ≡ Some e → ⊥) × (apply_row row x ≡ 0))
row-gives [] x h = inr (λ i e g. (cc), refl)
row-gives (o ∷ row) [] h = absurd (let no : ⊥ = omega arith in no)
row-gives (None ∷ row) (s ∷ x) h = elim (row-gives row x (let g : length row ≡ length x = omega arith in g)) [
  | inl g ↦ inl (record { i = suc g.i; e = g.e; within = (let b : g.i < length x = g.within in let c : suc g.i < suc (length x) = omega arith in c); entry = g.entry; is = g.is })
  | inr (free, zero_is) ↦ inr (λ i e at. nowhere row i e free at, zero_is)
]
  where
    nowhere : (row : List (Option ℕ)) (i e : ℕ) → ((i e : ℕ) → slice_index_or row i None ≡ Some e → ⊥) → slice_index_or (None ∷ row) i None ≡ Some e → ⊥
    nowhere row zero e free at = (cc)
    nowhere row (suc i) e free at = free i e at
row-gives (Some d ∷ row) (s ∷ x) h = inl (elim (row-gives row x (let g : length row ≡ length x = omega arith in g)) [
  | inl g ↦ elim (cases_lt (s + d) (apply_row row x)) [
    | inl more ↦ record {
      i = suc g.i;
      e = g.e;
      within = (let b : g.i < length x = g.within in let c : suc g.i < suc (length x) = omega arith in c);
      entry = g.entry;
      is = (let b : slice_index x g.i + g.e ≡ apply_row row x = g.is in let c : slice_index x g.i + g.e ≡ max (s + d) (apply_row row x) = omega arith in c);
    }
    | inr less ↦ record { i = 0; e = d; within = (let c : 0 < suc (length x) = omega arith in c); entry = refl; is = (let c : s + d ≡ max (s + d) (apply_row row x) = omega arith in c) }
  ]
  | inr (free, zero_is) ↦ record { i = 0; e = d; within = (let c : 0 < suc (length x) = omega arith in c); entry = refl; is = (let z : apply_row row x ≡ 0 = zero_is in let c : s + d ≡ max (s + d) (apply_row row x) = omega arith in c) }
])

pub applied-at : (rows : List (List (Option ℕ))) (x : List ℕ) (j : ℕ) → j < length rows → slice_index (applied rows x) j ≡ apply_row (slice_index_or rows j []) x
applied-at rows x j h = get_or-map (λ (row : List (Option ℕ)). apply_row row x) rows j [] 0 h

-- the greatest of a list is one of it, or 0
pub greatest-least : (y : List ℕ) (j : ℕ) → slice_index y j ≤ greatest y
greatest-least [] j = omega arith
greatest-least (s ∷ y) zero = omega arith
greatest-least (s ∷ y) (suc j) = let h : slice_index y j ≤ greatest y = greatest-least y j in omega arith

pub greatest-there : (y : List ℕ) → (greatest y ≡ 0) ⊎ ((j : ℕ) × (j < length y) × (slice_index y j ≡ greatest y))
greatest-there [] = inl refl
greatest-there (s ∷ y) = inr (elim (cases_lt s (greatest y)) [
  | inl more ↦ elim (greatest-there y) [
    | inl none ↦ absurd (let no : ⊥ = omega arith in no)
    | inr (j, b, is) ↦ (suc j, (let c : suc j < suc (length y) = omega arith in c), (let c : slice_index y j ≡ max s (greatest y) = omega arith in c))
  ]
  | inr less ↦ (0, (let c : 0 < suc (length y) = omega arith in c), (let c : s ≡ max s (greatest y) = omega arith in c))
])
