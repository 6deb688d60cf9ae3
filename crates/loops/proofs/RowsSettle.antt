-- By rows of starts: when each firing that isn't like the one before it is over.
use Rattle.std.proofs.Common.{◌≡◌, ℕ, ◌+◌, ◌-◌, ◌≤◌, ◌<◌, ◌⊎◌, List, length, inl, inr, ⊎_elim, refl, arith}
use Rattle.std.proofs.lemmas.Bool.{cases_lt}
use Rattle.sd_base.specs.Net.{Net}
use Rattle.loops.specs.Settling.{IsRowLike, IsRowOver, AreLikeAfter, IsRowSettled, IsFirstSettled}
use Rattle.loops.specs.StartRows.{EndsRise}

-- the last firing that isn't like the one before it decides
pub first-settled : (net : Net) (a : ℕ) (row : List ℕ) (more period n moment : ℕ) → EndsRise net a row → AreLikeAfter row more period n → 1 ≤ n → IsRowOver net a row more period moment (n - 1) →
    ((x : ℕ) → IsRowOver net a row more period x (n - 1) → moment ≤ x) → IsFirstSettled net a row more period moment
first-settled net a row more period n moment rise like some over least = record {
  settled = λ j there. ⊎_elim
      (λ (early : j < n). inr (record {
        later = omega (arith, rise j (n - 1) (omega arith) (omega (arith, like.within)), over.later);
        earlier = λ after. omega (arith, rise (j - more) (n - 1 - more) (omega arith) (omega (arith, like.within)), over.earlier (omega arith));
      }))
      (λ (late : n ≤ j). inl (like.like j late there))
      (cases_lt j n);
  first = λ x unlike. least x (unlike (n - 1) (omega (arith, like.within)) (like.unlike some));
}

-- what is over by a moment is over by a later one
pub settled-later : (net : Net) (a : ℕ) (row : List ℕ) (more period x y : ℕ) → x ≤ y → IsRowSettled net a row more period x → IsRowSettled net a row more period y
settled-later net a row more period x y le settled j there = ⊎_elim
    (λ like. inl like)
    (λ over. inr (record { later = omega (arith, over.later); earlier = λ after. omega (arith, over.earlier after) }))
    (settled j there)

-- the rows of the actors one after another
module _ (net : Net) (row : ℕ → List ℕ) (more : ℕ → ℕ) (period n from until next : ℕ) where
  pub next-settled : ((a m : ℕ) → a < n → m ≡ more a → IsRowSettled net a (row a) m period from) → from ≤ next → until ≤ next → IsRowSettled net n (row n) (more n) period until →
      (a m : ℕ) → a < n + 1 → m ≡ more a → IsRowSettled net a (row a) m period next
  next-settled old one other new a m below is = ⊎_elim
      (λ (before : a < n). settled-later net a (row a) m period from next one (old a m before is))
      (λ (last : n ≤ a).
      let e : n ≡ a = omega arith in
      let mine : IsRowSettled net a (row a) (more a) period until = rw e at new in
      settled-later net a (row a) m period until next other (rw is mine))
      (cases_lt a n)

  pub next-first : ((x : ℕ) → ((a m j : ℕ) → a < n → m ≡ more a → j < length (row a) → (IsRowLike (row a) m period j → ⊥) → IsRowOver net a (row a) m period x j) → from ≤ x) →
      ((x : ℕ) → ((j : ℕ) → j < length (row n) → (IsRowLike (row n) (more n) period j → ⊥) → IsRowOver net n (row n) (more n) period x j) → until ≤ x) →
      (next ≡ from) ⊎ (next ≡ until) →
      (x : ℕ) → ((a m j : ℕ) → a < n + 1 → m ≡ more a → j < length (row a) → (IsRowLike (row a) m period j → ⊥) → IsRowOver net a (row a) m period x j) → next ≤ x
  next-first old new is x over = ⊎_elim
      (λ (same : next ≡ from). rw same (old x (λ a m j below. over a m j (omega arith))))
      (λ (same : next ≡ until). rw same (new x (λ j. over n (more n) j (omega arith) refl)))
      is
