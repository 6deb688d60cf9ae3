-- Stamps with one spike read an entry off a matrix.
use Rattle.std.proofs.Common.{◌≡◌, ℕ, zero, suc, ◌+◌, ◌≤◌, ◌<◌, List, [], ◌∷◌, length, replicate, Option, Some, None, refl, ap, arith}
use Rattle.std.specs.Prelude.{slice_index, slice_index_or}
use Rattle.std.proofs.lemmas.List.{length-replicate}
use Rattle.sd_base.proofs.ElementsKeepPlaces.{replicate-same}
use Rattle.token_matrix.specs.Matrices.{apply_row}

-- n stamps of 0, but for one of m at place i
pub spike : ℕ → ℕ → ℕ → List ℕ
spike i m zero = []
spike zero m (suc n) = m ∷ replicate n 0
spike (suc i) m (suc n) = 0 ∷ spike i m n

pub length-spike : (i m n : ℕ) → length (spike i m n) ≡ n
unfolding spike
length-spike i m zero = refl
length-spike zero m (suc n) = ap (λ (k : ℕ). suc k) (length-replicate n 0)
length-spike (suc i) m (suc n) = ap (λ (k : ℕ). suc k) (length-spike i m n)

-- no entry is above b
abbrev pub AreShort : ℕ → List (Option ℕ) → Type 0
AreShort b row = (k e : ℕ) → slice_index_or row k None ≡ Some e → e ≤ b

later : (b : ℕ) (o : Option ℕ) (row : List (Option ℕ)) → AreShort b (o ∷ row) → AreShort b row
later b o row short k e at = short (suc k) e at

low : (b n : ℕ) (row : List (Option ℕ)) → AreShort b row → apply_row row (replicate n 0) ≤ b
low b n [] short = omega arith
low b zero (o ∷ row) short = omega arith
low b (suc n) (None ∷ row) short = low b n row (later b None row short)
low b (suc n) (Some e ∷ row) short =
    let h : apply_row row (replicate n 0) ≤ b = low b n row (later b (Some e) row short) in
    let g : e ≤ b = short 0 e refl in omega arith

pub at_none : (b m n i : ℕ) (row : List (Option ℕ)) → AreShort b row → slice_index_or row i None ≡ None → apply_row row (spike i m n) ≤ b
unfolding spike
at_none b m n i [] short at = omega arith
at_none b m zero i (o ∷ row) short at = omega arith
at_none b m (suc n) zero (None ∷ row) short at = low b n row (later b None row short)
at_none b m (suc n) zero (Some e ∷ row) short at = absurd (cc)
at_none b m (suc n) (suc i) (None ∷ row) short at = at_none b m n i row (later b None row short) at
at_none b m (suc n) (suc i) (Some e ∷ row) short at =
    let h : apply_row row (spike i m n) ≤ b = at_none b m n i row (later b (Some e) row short) at in
    let g : e ≤ b = short 0 e refl in omega arith

pub at_some : (b m n i e : ℕ) (row : List (Option ℕ)) → AreShort b row → b ≤ m → i < n → slice_index_or row i None ≡ Some e → apply_row row (spike i m n) ≡ m + e
unfolding spike
at_some b m n i e [] short wide below at = absurd (cc)
at_some b m zero i e (o ∷ row) short wide below at = absurd (let no : ⊥ = omega arith in no)
at_some b m (suc n) zero e (None ∷ row) short wide below at = absurd (cc)
at_some b m (suc n) zero e (Some d ∷ row) short wide below at =
    let same : d ≡ e = (cc) in
    let h : apply_row row (replicate n 0) ≤ b = low b n row (later b (Some d) row short) in omega arith
at_some b m (suc n) (suc i) e (None ∷ row) short wide below at = at_some b m n i e row (later b None row short) wide (let g : i < n = omega arith in g) at
at_some b m (suc n) (suc i) e (Some d ∷ row) short wide below at =
    let h : apply_row row (spike i m n) ≡ m + e = at_some b m n i e row (later b (Some d) row short) wide (let g : i < n = omega arith in g) at in
    let g : d ≤ b = short 0 d refl in omega arith

-- the stamp of the spike, and the others
pub spike-here : (i m n : ℕ) → i < n → slice_index (spike i m n) i ≡ m
unfolding spike
spike-here i m zero below = absurd (let no : ⊥ = omega arith in no)
spike-here zero m (suc n) below = refl
spike-here (suc i) m (suc n) below = spike-here i m n (omega arith)

pub spike-there : (i m n k : ℕ) → (k ≡ i → ⊥) → slice_index (spike i m n) k ≡ 0
unfolding spike
spike-there i m zero k apart = refl
spike-there zero m (suc n) zero apart = absurd (apart refl)
spike-there zero m (suc n) (suc k) apart = replicate-same n k 0
spike-there (suc i) m (suc n) zero apart = refl
spike-there (suc i) m (suc n) (suc k) apart = spike-there i m n k (λ same. apart (ap (λ (x : ℕ). suc x) same))
