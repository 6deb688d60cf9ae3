-- A list that is gone through again up to more phases has the same entries and sums.
use Rattle.std.proofs.Common.{◌≡◌, ℕ, zero, suc, ◌+◌, ◌%◌, ◌≤◌, ◌<◌, List, length, sym, ap, ◌∙◌, arith}
use Rattle.std.proofs.Math.Nat.{mod-lt, mod-mod_of_dvd}
use Rattle.std.specs.Prelude.{slice_index}
use Rattle.std.proofs.lemmas.Nat.Gcd.{dvd_of_mod-eq-zero}
use Rattle.std.proofs.lemmas.List.FromFn.{length-map-range_with_len, get_or-map-range_with_len}
use Rattle.sd_base.specs.Net.{phase_entry, total}
use Rattle.sd_base.proofs.SumsRepeatByTurns.{total-zero, total-suc}
use Rattle.ordered.specs.OrderedNets.{unrolled}

pub unrolled-long : (n : ℕ) (xs : List ℕ) → length (unrolled n xs) ≡ n
unrolled-long n xs = length-map-range_with_len (phase_entry xs) 0 n

pub unrolled-at : (n : ℕ) (xs : List ℕ) (p : ℕ) → p < n → slice_index (unrolled n xs) p ≡ phase_entry xs p
unrolled-at n xs p below = get_or-map-range_with_len (phase_entry xs) 0 n p p 0 below (omega arith)

module _ (n : ℕ) (xs : List ℕ) (turns : n % length xs ≡ 0) (some : 1 ≤ n) where
  pub unrolled-entry : (k : ℕ) → phase_entry (unrolled n xs) k ≡ phase_entry xs k
  unrolled-entry k =
      let long : k % length (unrolled n xs) ≡ k % n = ap (λ (m : ℕ). k % m) (unrolled-long n xs) in
      let below : k % n < n = mod-lt k (omega arith) in
      ap (slice_index (unrolled n xs)) long ∙ (unrolled-at n xs (k % n) below ∙ ap (slice_index xs) (mod-mod_of_dvd (length xs) k (dvd_of_mod-eq-zero (length xs) turns)))

  pub unrolled-total : (k : ℕ) → total (unrolled n xs) k ≡ total xs k
  unrolled-total zero = total-zero (unrolled n xs) ∙ sym (total-zero xs)
  unrolled-total (suc k) = total-suc (unrolled n xs) k ∙ (ap (λ (m : ℕ). m + phase_entry (unrolled n xs) k) (unrolled-total k) ∙ (ap (λ (m : ℕ). total xs k + m) (unrolled-entry k) ∙ sym (total-suc xs k)))
