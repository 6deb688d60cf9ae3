-- The channels of buffers rise.
use Rattle.std.proofs.Common.{◌≡◌, ℕ, zero, suc, ◌+◌, ◌<◌, ◌≤◌, List, [], ◌∷◌, length, Option, Some, None, subst, arith}
use Rattle.std.specs.Prelude.{slice_index_or}
use Rattle.cert_text.specs.Spellable.{Rise}
use Rattle.cert_maker.specs.RateCertificates.{buffers_from}

-- none of the channels from c on is before c
above : (c : ℕ) (ds : List (Option ℕ)) (i : ℕ) → i < length (buffers_from c ds) → c ≤ (slice_index_or (buffers_from c ds) i (0, 0)).0
above c [] i h = absurd (omega (arith, h))
above c (None ∷ ds) i h = let more = above (suc c) ds i h in omega (arith, more)
above c (Some k ∷ ds) zero h = omega (arith)
above c (Some k ∷ ds) (suc i) h = let less : i < length (buffers_from (suc c) ds) = omega (arith, h) in let more = above (suc c) ds i less in omega (arith, more)

rising : (c : ℕ) (ds : List (Option ℕ)) → Rise (buffers_from c ds)
rising c [] i h = absurd (omega (arith, h))
rising c (None ∷ ds) i h = rising (suc c) ds i h
rising c (Some k ∷ ds) zero h = let some : 0 < length (buffers_from (suc c) ds) = omega (arith, h) in above (suc c) ds 0 some
rising c (Some k ∷ ds) (suc i) h =
    let less : i + 1 < length (buffers_from (suc c) ds) = omega (arith, h) in
    let next : suc (i + 1) ≡ suc i + 1 = omega arith in
    subst (λ (j : ℕ). (slice_index_or (buffers_from (suc c) ds) i (0, 0)).0 < (slice_index_or ((c, k) ∷ buffers_from (suc c) ds) j (0, 0)).0) next (rising (suc c) ds i less)

pub buffers-rise : (ds : List (Option ℕ)) → Rise (buffers_from 0 ds)
buffers-rise ds = rising 0 ds
