-- Rates by phase, with the sums of the first of them.
use Rattle.std.proofs.Common.{◌≡◌, ℕ, ◌+◌, ◌*◌, ◌≤◌, ◌<◌, List, [], ◌∷◌, ◌++◌, length, ⊎_elim, subst, sym, ap, ◌∙◌, arith}
use Rattle.std.specs.Prelude.{slice_index}
use Rattle.std.proofs.lemmas.Bool.{cases_lt}
use Rattle.std.proofs.lemmas.List.{get_or_append_left, get_or_push, length_push}
use Rattle.sd_base.specs.Net.{total}
use Rattle.firing.specs.Csdf.{AreRates}
use Rattle.firing.proofs.PortSums.{turn-none, turn-more}

-- number k of the sums is that of the first k numbers, up to n
pub record AreSumsTo (numbers : List ℕ) (n sum : ℕ) (sums : List ℕ) : Type 0 where
  pub many : length sums ≡ n + 1
  pub each : (k : ℕ) → k ≤ n → slice_index sums k ≡ total numbers k
  pub last : sum ≡ total numbers n
  pub small : sum ≤ n * 1000000

pub sums-none : (numbers sums : List ℕ) → sums ≡ [] ++ 0 ∷ [] → AreSumsTo numbers 0 0 sums
sums-none numbers sums push = subst (AreSumsTo numbers 0 0) (sym push) (record {
  many = omega arith;
  each = λ k h.
      let zero_is : 0 ≡ total numbers 0 = turn-none numbers in
      let at : k ≡ 0 = omega arith in
      rw at zero_is;
  last = turn-none numbers;
  small = omega arith;
})

pub sums-more : (numbers : List ℕ) (n sum rate : ℕ) (sums more : List ℕ) → AreRates numbers → n < length numbers → rate ≡ slice_index numbers n → more ≡ sums ++ (sum + rate) ∷ [] →
    AreSumsTo numbers n sum sums → AreSumsTo numbers (n + 1) (sum + rate) more
sums-more numbers n sum rate sums more rates below here push so_far =
    let next : sum + rate ≡ total numbers (n + 1) = turn-more numbers n sum rate so_far.last below here in
    let few : slice_index numbers n ≤ 1000000 = rates.small n 0 below in
    let small : sum ≤ n * 1000000 = so_far.small in
    subst (AreSumsTo numbers (n + 1) (sum + rate)) (sym push) (record {
      many = length_push sums (sum + rate) ∙ ap (λ (k : ℕ). k + 1) so_far.many;
      each = λ k h. ⊎_elim
          (λ (old : k < n + 1). get_or_append_left sums ((sum + rate) ∷ []) 0 k (omega (arith, so_far.many)) ∙ so_far.each k (omega arith))
          (λ (new : n + 1 ≤ k).
          let at : length sums ≡ k = omega (arith, so_far.many) in
          let same : n + 1 ≡ k = omega arith in
          get_or_push sums (sum + rate) 0 k at ∙ (next ∙ ap (total numbers) same))
          (cases_lt k (n + 1));
      last = next;
      small = omega arith;
    })
