-- Shapes that compare as equal are equal.
use Rattle.std.proofs.Common.{◌≡◌, ℕ, Bool, true, ◌&&◌, List, nat_eq, refl, ap}
use Rattle.std.specs.Bool.{Decides}
use Rattle.std.specs.Cmp.Lexicographic.{pointwise}
use Rattle.std.proofs.lemmas.Bool.{and_parts, and_from}
use Rattle.std.proofs.lemmas.Slice.Eq.{slice_eq-Decides, bytes_eq-Decides}
use Rattle.sd_base.specs.SelfTimed
use Rattle.selftimed.specs.declared.shape.Shape.{Shape}
use Rattle.selftimed.specs.EngineShapes.{form}

-- the test of two shapes, list by list
abbrev pub alike : Shape → Shape → Bool
alike a b = pointwise nat_eq a.tokens b.tokens && (pointwise nat_eq a.phases b.phases && pointwise (pointwise nat_eq) a.remaining b.remaining)

rows-Decides : (xs ys : List (List ℕ)) → Decides (pointwise (pointwise nat_eq) xs ys) (xs ≡ ys)
rows-Decides xs ys = slice_eq-Decides bytes_eq-Decides xs ys (pointwise (pointwise nat_eq) xs ys) refl

pub alike-tells : (a b : Shape) → alike a b ≡ true → form a ≡ form b
alike-tells a b holds =
    let first = and_parts (pointwise nat_eq a.tokens b.tokens) (pointwise nat_eq a.phases b.phases && pointwise (pointwise nat_eq) a.remaining b.remaining) holds in
    let second = and_parts (pointwise nat_eq a.phases b.phases) (pointwise (pointwise nat_eq) a.remaining b.remaining) first.1 in
    let tokens : a.tokens ≡ b.tokens = (bytes_eq-Decides a.tokens b.tokens).0 first.0 in
    let phases : a.phases ≡ b.phases = (bytes_eq-Decides a.phases b.phases).0 second.0 in
    let remaining : a.remaining ≡ b.remaining = (rows-Decides a.remaining b.remaining).0 second.1 in
    rw tokens (rw phases (rw remaining refl))

pub alike-holds : (a b : Shape) → form a ≡ form b → alike a b ≡ true
alike-holds a b same =
    and_from _ _ ((bytes_eq-Decides a.tokens b.tokens).1 (ap (λ (f : SelfTimed.Shape). f.tokens) same))
    (and_from _ _ ((bytes_eq-Decides a.phases b.phases).1 (ap (λ (f : SelfTimed.Shape). f.phases) same)) ((rows-Decides a.remaining b.remaining).1 (ap (λ (f : SelfTimed.Shape). f.remaining) same)))
