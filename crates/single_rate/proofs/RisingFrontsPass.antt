-- Lists that never fall, and how many of their numbers pass a test that smaller numbers pass too.
use Rattle.std.proofs.Common.{◌≡◌, ℕ, suc, ◌+◌, ◌≤◌, ◌<◌, Bool, true, List, length, arith}
use Rattle.std.specs.Prelude.{slice_index, count_by}
use Rattle.std.proofs.lemmas.Bool.{and_parts, and_from, ltb-true, lt-ltb}
use Rattle.single_rate.proofs.TalliesGiveWeights.{tally, tally-le, IsPrefix, prefix-tally, prefix-tells}
use Rattle.single_rate.proofs.CopiesCountFirings.{is_at, count-places}

pub record Rises (xs : List ℕ) : Type 0 where
  pub next : (k : ℕ) → k + 1 < length xs → slice_index xs k ≤ slice_index xs (k + 1)

-- what smaller numbers pass too
pub record PassesBelow (g : ℕ → Bool) : Type 0 where
  pub below : (x y : ℕ) → x ≤ y → g y ≡ true → g x ≡ true

module _ (xs : List ℕ) (rises : Rises xs) (g : ℕ → Bool) (down : PassesBelow g) where
  places : IsPrefix (is_at g xs)
  places = record {
    before = λ n holds.
        let parts = and_parts _ _ holds in
        let within : suc n < length xs = ltb-true (suc n) (length xs) parts.0 in
        let le : slice_index xs n ≤ slice_index xs (suc n) = (let e : n + 1 ≡ suc n = omega arith in rw e at (rises.next n (omega arith))) in
        and_from _ _ (lt-ltb n (length xs) (omega arith)) (down.below (slice_index xs n) (slice_index xs (suc n)) le parts.1);
  }

  -- the numbers before the count pass
  pub rising-tells : (n : ℕ) → n < count_by g xs → (n < length xs) × (g (slice_index xs n) ≡ true)
  rising-tells n below =
      let holds : is_at g xs n ≡ true = prefix-tells (is_at g xs) places n (length xs) (rw (count-places g xs (length xs) (omega arith)) below) in
      let parts = and_parts _ _ holds in
      (ltb-true n (length xs) parts.0, parts.1)

  -- where a number passes, so do those before it
  pub rising-count : (n : ℕ) → n < length xs → g (slice_index xs n) ≡ true → suc n ≤ count_by g xs
  rising-count n within passes =
      let holds : is_at g xs n ≡ true = and_from _ _ (lt-ltb n (length xs) within) passes in
      let all : tally (is_at g xs) (suc n) ≡ suc n = prefix-tally (is_at g xs) places n holds in
      let le : tally (is_at g xs) (suc n) ≤ tally (is_at g xs) (length xs) = tally-le (is_at g xs) (suc n) (length xs) (omega arith) in
      let counted : tally (is_at g xs) (length xs) ≡ count_by g xs = count-places g xs (length xs) (omega arith) in
      omega arith
