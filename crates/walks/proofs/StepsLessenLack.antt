-- What lacks to a goal falls with each step.
use Rattle.std.proofs.Common.{◌≡◌, ℕ, zero, suc, ◌+◌, ◌-◌, ◌≤◌, ◌<◌, List, [], ◌∷◌, length, arith}
use Rattle.std.specs.Prelude.{slice_index, slice_set}

-- the sum over the channels
abbrev pub lacking : List ℕ → List ℕ → ℕ
lacking [] ks = 0
lacking (g ∷ goal) [] = 0
lacking (g ∷ goal) (k ∷ ks) = g - k + lacking goal ks

pub lacking-falls : (goal ks : List ℕ) (c s : ℕ) → length ks ≡ length goal → 1 ≤ s → slice_index ks c + s ≤ slice_index goal c → lacking goal (slice_set ks c (slice_index ks c + s)) < lacking goal ks
lacking-falls [] [] c s long some fits = absurd (omega arith)
lacking-falls [] (k ∷ ks) c s long some fits = absurd (omega arith)
lacking-falls (g ∷ goal) [] c s long some fits = absurd (omega arith)
lacking-falls (g ∷ goal) (k ∷ ks) zero s long some fits = omega arith
lacking-falls (g ∷ goal) (k ∷ ks) (suc c) s long some fits =
    let rest : lacking goal (slice_set ks c (slice_index ks c + s)) < lacking goal ks = lacking-falls goal ks c s (omega arith) some fits in
    omega (arith, rest)
