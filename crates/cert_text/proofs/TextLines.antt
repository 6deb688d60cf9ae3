-- Texts as lines.
use Rattle.std.proofs.Common.{◌≡◌, ◌≢◌, ℕ, zero, suc, ◌+◌, ◌-◌, ◌<◌, ◌≤◌, Bool, true, false, List, [], ◌∷◌, length, take, drop, refl, sym, ap, arith}
use Rattle.std.specs.Prelude.{slice_index, ◌==◌, if◌then◌else◌}
use Rattle.std.proofs.lemmas.Bool.{eq-eqb, eqb-true}
use Rattle.cert_text.specs.Reads.{onto, lines_of}

ne-eqb : (a b : ℕ) → a ≢ b → (a == b) ≡ false
ne-eqb a b ne = step (a == b) refl
  where
    step : (same : Bool) → (a == b) ≡ same → (a == b) ≡ false
    step true e = absurd (ne (eqb-true a b e))
    step false e = e

-- the first line of a text
pub first-line : (text : List ℕ) (n : ℕ) → 0 < n → n ≤ length text → ((k : ℕ) → k + 1 < n → slice_index text k ≢ 10) → (n < length text → slice_index text (n - 1) ≡ 10)
    → lines_of text ≡ take n text ∷ lines_of (drop n text)
unfolding lines_of
first-line text zero some within before closed = absurd (omega arith)
first-line [] (suc n) some within before closed = absurd (omega arith)
first-line (b ∷ bs) (suc zero) some within before closed = one (b == 10) refl bs refl
  where
    one : (feed : Bool) → (b == 10) ≡ feed → (rest : List ℕ) → bs ≡ rest → (if feed then (b ∷ []) ∷ lines_of bs else onto b (lines_of bs)) ≡ (b ∷ []) ∷ lines_of bs
    one true e rest is = refl
    one false e [] is = rw is refl
    one false e (c ∷ cs) is =
        let long : 1 < length (b ∷ bs) = omega (arith, ap length is) in
        let feed : (b == 10) ≡ true = eq-eqb b 10 (closed long) in
        absurd (cc (e, feed))
first-line (b ∷ bs) (suc (suc n)) some within before closed =
    let first : (b == 10) ≡ false = ne-eqb b 10 (before 0 (omega arith)) in
    let rest = first-line bs (suc n) (omega arith) (omega arith) (λ k less. before (suc k) (omega arith)) (λ long. let q : suc n - 1 ≡ n = omega arith in let p : suc (suc n) - 1 ≡ suc n = omega arith in rw q (rw p at (closed (omega arith)))) in
    rw (first, rest) refl

pub no-lines : (text : List ℕ) → length text ≡ 0 → lines_of text ≡ []
unfolding lines_of
no-lines [] none = refl
no-lines (b ∷ bs) none = absurd (omega arith)

pub empty-lines : (text : List ℕ) → true ≡ (length text == 0) → lines_of text ≡ []
empty-lines text empty = no-lines text (eqb-true (length text) 0 (sym empty))

pub lines-some : (text : List ℕ) → false ≡ (length text == 0) → lines_of text ≡ [] → ⊥
unfolding lines_of
lines-some [] some none = absurd (cc (some, eq-eqb 0 0 refl))
lines-some (b ∷ bs) some none = by_test (b == 10) none
  where
    by_lines : (lines : List (List ℕ)) → onto b lines ≡ [] → ⊥
    by_lines [] e = cc
    by_lines (l ∷ ls) e = cc

    by_test : (feed : Bool) → (if feed then (b ∷ []) ∷ lines_of bs else onto b (lines_of bs)) ≡ [] → ⊥
    by_test true e = cc
    by_test false e = by_lines (lines_of bs) e
