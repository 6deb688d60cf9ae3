-- What loops over copies put together, piece by piece.
use Rattle.std.proofs.Common.{◌≡◌, ℕ, zero, suc, ◌+◌, ◌-◌, ◌≤◌, ◌<◌, List, [], ◌∷◌, ◌++◌, length, subst, sym, ap, ◌∙◌, arith}
use Rattle.std.specs.List.{range_with_len, flat_map}
use Rattle.std.proofs.Math.ListN.{length-append}
use Rattle.std.proofs.lemmas.List.{append-nil, append_assoc}
use Rattle.sd_base.proofs.ElementsKeepPlaces.{range-more}

module _ {A : Type 0} (f : ℕ → List A) where
  -- a piece more
  pub pieces-next : (n : ℕ) → flat_map f (range_with_len 0 (n + 1)) ≡ flat_map f (range_with_len 0 n) ++ f n
  pieces-next n =
      ap (λ (xs : List ℕ). flat_map f xs) (range-more 0 n n (omega arith))
      ∙ (Rattle.std.proofs.lemmas.Grind.flat_map-append f (range_with_len 0 n) (n ∷ []) ∙ ap (λ (xs : List A). flat_map f (range_with_len 0 n) ++ xs) (append-nil (f n)))

  pub pieces-added : (old done new : List A) (n : ℕ) → done ≡ old ++ flat_map f (range_with_len 0 n) → new ≡ done ++ f n → new ≡ old ++ flat_map f (range_with_len 0 (n + 1))
  pieces-added old done new n kept here =
      here ∙ (ap (λ (xs : List A). xs ++ f n) kept ∙ (append_assoc old (flat_map f (range_with_len 0 n)) (f n) ∙ ap (λ (xs : List A). old ++ xs) (sym (pieces-next n))))

  pieces-along : (n d : ℕ) → length (flat_map f (range_with_len 0 n)) ≤ length (flat_map f (range_with_len 0 (d + n)))
  pieces-along n zero = let e : 0 + n ≡ n = omega arith in rw e (omega arith)
  pieces-along n (suc d) =
      let e : suc d + n ≡ (d + n) + 1 = omega arith in
      rw (e, pieces-next (d + n)) (omega (arith, length-append (flat_map f (range_with_len 0 (d + n))) (f (d + n)), pieces-along n d))

  -- no more elements than all pieces have
  pub pieces-within : (k n : ℕ) → k < n → length (flat_map f (range_with_len 0 k)) + length (f k) ≤ length (flat_map f (range_with_len 0 n))
  pieces-within k n below =
      let e : (n - (k + 1)) + (k + 1) ≡ n = omega arith in
      let more : length (flat_map f (range_with_len 0 (k + 1))) ≤ length (flat_map f (range_with_len 0 n)) = subst (λ (z : ℕ). length (flat_map f (range_with_len 0 (k + 1))) ≤ length (flat_map f (range_with_len 0 z))) e (pieces-along (k + 1) (n - (k + 1))) in
      let next : length (flat_map f (range_with_len 0 (k + 1))) ≡ length (flat_map f (range_with_len 0 k)) + length (f k) = ap length (pieces-next k) ∙ length-append (flat_map f (range_with_len 0 k)) (f k) in
      omega arith
