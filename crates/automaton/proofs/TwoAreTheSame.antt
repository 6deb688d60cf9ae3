-- Of n + 1 numbers below n two are the same.
use Rattle.std.proofs.Common.{◌≡◌, ◌≢◌, ℕ, zero, suc, ◌<◌, ◌⊎◌, sym, ◌∙◌, inl, inr, arith}
use Rattle.std.proofs.lemmas.Bool.{cases_eq}

pick : (m x y : ℕ) → (y ≡ m) ⊎ (y ≢ m) → ℕ
pick m x y (inl h) = x
pick m x y (inr h) = y

pub pigeons : (n : ℕ) (f : ℕ → ℕ) → ((i : ℕ) → i < suc n → f i < n) → ((i j : ℕ) → i < j → j < suc n → f i ≢ f j) → ⊥
unfolding pick
pigeons zero f below differ = let h : f 0 < 0 = below 0 (let g : 0 < suc 0 = omega arith in g) in let no : ⊥ = omega arith in no
pigeons (suc m) f below differ = pigeons m (λ i. pick m (f (suc m)) (f i) (cases_eq (f i) m)) (λ i h. lower i h (cases_eq (f i) m))
    (λ i j h g. apart i j h g (cases_eq (f i) m) (cases_eq (f j) m))
  where
    lower : (i : ℕ) → i < suc m → (o : (f i ≡ m) ⊎ (f i ≢ m)) → pick m (f (suc m)) (f i) o < m
    lower i h (inl e) = let d : f i ≢ f (suc m) = differ i (suc m) h (let g : suc m < suc (suc m) = omega arith in g) in
        let b : f (suc m) < suc m = below (suc m) (let g : suc m < suc (suc m) = omega arith in g) in omega arith
    lower i h (inr e) = let b : f i < suc m = below i (omega arith) in omega arith

    apart : (i j : ℕ) → i < j → j < suc m → (o : (f i ≡ m) ⊎ (f i ≢ m)) (q : (f j ≡ m) ⊎ (f j ≢ m)) → pick m (f (suc m)) (f i) o ≢ pick m (f (suc m)) (f j) q
    apart i j h g (inl a) (inl b) = λ s. differ i j h (omega arith) (a ∙ sym b)
    apart i j h g (inl a) (inr b) = λ s. differ j (suc m) g (let k : suc m < suc (suc m) = omega arith in k) (sym s)
    apart i j h g (inr a) (inl b) = λ s. differ i (suc m) (omega arith) (let k : suc m < suc (suc m) = omega arith in k) s
    apart i j h g (inr a) (inr b) = λ s. differ i j h (omega arith) s
