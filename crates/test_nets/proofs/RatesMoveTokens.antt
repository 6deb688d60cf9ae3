-- Rates move a token exactly where one of them isn't zero.
use Rattle.std.proofs.Common.{◌≡◌, ◌↔◌, ℕ, zero, suc, ◌≤◌, List, [], ◌∷◌, true, nat_lt, arith, rules, sym, true≢false}
use Rattle.std.specs.List.{list_any, sum}
use Rattle.std.proofs.lemmas.List.Folds.{list_any_at}
use Rattle.std.proofs.lemmas.List.Sums.{sum_by-cons}

-- some rate is above none just where they make a sum
moves-sum : (xs : List ℕ) → list_any (λ (r : ℕ). nat_lt 0 r) xs ≡ true → 1 ≤ sum xs
moves-sum [] some = absurd (true≢false (sym some))
moves-sum (zero ∷ xs) some = let rest = moves-sum xs some in omega (arith, rest)
moves-sum (suc n ∷ xs) some = omega (arith, sum_by-cons (λ (r : ℕ). r) (suc n) xs)

sum-moves : (xs : List ℕ) → 1 ≤ sum xs → list_any (λ (r : ℕ). nat_lt 0 r) xs ≡ true
sum-moves [] some = absurd (omega (arith, some))
sum-moves (zero ∷ xs) some = sum-moves xs (omega (arith, some))
sum-moves (suc n ∷ xs) some = list_any_at (λ (r : ℕ). nat_lt 0 r) (suc n ∷ xs) 0 0 (omega arith) (search rules)

pub some-moved : (xs : List ℕ) → (list_any (λ (r : ℕ). nat_lt 0 r) xs ≡ true) ↔ (1 ≤ sum xs)
some-moved xs = (moves-sum xs, sum-moves xs)
