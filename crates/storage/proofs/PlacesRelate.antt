-- Related lists of channels have one length and are related place by place, also behind a common front.
use Rattle.std.proofs.Common.{◌≡◌, ℕ, zero, suc, ◌<◌, List, [], ◌∷◌, ◌++◌, length, refl, ap, arith}
use Rattle.std.specs.Prelude.{slice_index_or}
use Rattle.sd_base.specs.Net.{Channel, nowhere}

abbrev pub EachPair : (Channel → Channel → Type 0) → List Channel → List Channel → Type 0
EachPair R [] [] = Unit {0}
EachPair R [] (y ∷ ys) = ⊥
EachPair R (x ∷ xs) [] = ⊥
EachPair R (x ∷ xs) (y ∷ ys) = R x y × EachPair R xs ys

pub pairs-length : (R : Channel → Channel → Type 0) (xs ys : List Channel) → EachPair R xs ys → length xs ≡ length ys
pairs-length R [] [] pairs = refl
pairs-length R [] (y ∷ ys) pairs = absurd pairs
pairs-length R (x ∷ xs) [] pairs = absurd pairs
pairs-length R (x ∷ xs) (y ∷ ys) pairs = ap suc (pairs-length R xs ys pairs.1)

pub pairs-at : (R : Channel → Channel → Type 0) (xs ys : List Channel) → EachPair R xs ys → (i : ℕ) → i < length ys → R (slice_index_or xs i nowhere) (slice_index_or ys i nowhere)
pairs-at R [] [] pairs i below = absurd (omega arith)
pairs-at R [] (y ∷ ys) pairs i below = absurd pairs
pairs-at R (x ∷ xs) [] pairs i below = absurd pairs
pairs-at R (x ∷ xs) (y ∷ ys) pairs zero below = pairs.0
pairs-at R (x ∷ xs) (y ∷ ys) pairs (suc i) below = pairs-at R xs ys pairs.1 i (omega arith)

pub pairs-front : (R : Channel → Channel → Type 0) → ((x : Channel) → R x x) → (front xs ys : List Channel) → EachPair R xs ys → EachPair R (front ++ xs) (front ++ ys)
pairs-front R same [] xs ys pairs = pairs
pairs-front R same (x ∷ front) xs ys pairs = (same x, pairs-front R same front xs ys pairs)
