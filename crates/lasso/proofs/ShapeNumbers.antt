-- Numbers that tell the shapes of self-timed execution apart: few, where few tokens stand and few firings run.
use Rattle.std.proofs.Common.{◌≡◌, ℕ, zero, suc, ◌+◌, ◌*◌, ◌≤◌, ◌<◌, List, [], ◌∷◌, length, map, refl, arith, mul-le-mul_left}
use Rattle.std.specs.Prelude.{slice_index_or}
use Rattle.std.specs.List.{range_with_len}
use Rattle.std.proofs.lemmas.List.{length-map}
use Rattle.sd_base.specs.SelfTimed.{Shape}
use Rattle.lasso.proofs.DigitsTellLists.{AreDigits, AreRows, code, code-small, numbers, one-digit, rows-digits, same-digits, same-rows}

-- the numbers of a shape are digits, and its lists no longer than so many
pub record IsSmallShape (base most : ℕ) (s : Shape) : Type 0 where
  pub tokens : AreDigits base s.tokens
  pub phases : AreDigits base s.phases
  pub remaining : AreRows base most s.remaining
  pub many_tokens : length s.tokens ≤ most
  pub many_phases : length s.phases ≤ most
  pub many_rows : length s.remaining ≤ most

-- more than there are lists of so many digits, and lists of such lists
lists : ℕ → ℕ → ℕ
lists base most = numbers base most + numbers (numbers base most + 1) most

pub shape_number : ℕ → ℕ → Shape → ℕ
shape_number base most s =
    code base s.tokens + lists base most * (code base s.phases + lists base most * code (numbers base most + 1) (map (code base) s.remaining))

pub shape_numbers : ℕ → ℕ → ℕ
shape_numbers base most = lists base most * (lists base most * lists base most)

rows-small : (base most : ℕ) (s : Shape) → 1 ≤ base → IsSmallShape base most s → code (numbers base most + 1) (map (code base) s.remaining) < lists base most
unfolding lists
rows-small base most s some small =
    let few : length (map (code base) s.remaining) ≤ most = rw (length-map s.remaining (code base)) small.many_rows in
    omega (arith, code-small (numbers base most + 1) most (map (code base) s.remaining) (omega arith) (rows-digits base most s.remaining some small.remaining) few)

list-small : (base most : ℕ) (xs : List ℕ) → 1 ≤ base → AreDigits base xs → length xs ≤ most → code base xs < lists base most
unfolding lists
list-small base most xs some digits few = omega (arith, code-small base most xs some digits few)

-- a digit more than a number that is below others
grown : (width x y most : ℕ) → x < width → y < most → x + width * y < width * most
grown width x y most first second =
    let scaled : width * (y + 1) ≤ width * most = mul-le-mul_left width (omega (arith, second)) in
    omega (arith, scaled, first)

pub number-small : (base most : ℕ) (s : Shape) → 1 ≤ base → IsSmallShape base most s → shape_number base most s < shape_numbers base most
unfolding shape_number shape_numbers
number-small base most s some small =
    let width : ℕ = lists base most in
    let tokens : code base s.tokens < lists base most = list-small base most s.tokens some small.tokens small.many_tokens in
    let phases : code base s.phases < lists base most = list-small base most s.phases some small.phases small.many_phases in
    let rows : code (numbers base most + 1) (map (code base) s.remaining) < lists base most = rows-small base most s some small in
    grown (lists base most) (code base s.tokens) (code base s.phases + lists base most * code (numbers base most + 1) (map (code base) s.remaining)) (lists base most * lists base most) tokens
    (grown (lists base most) (code base s.phases) (code (numbers base most + 1) (map (code base) s.remaining)) (lists base most) phases rows)

abbrev shape : List ℕ → List ℕ → List (List ℕ) → Shape
shape tokens phases remaining = record { tokens = tokens; phases = phases; remaining = remaining }

same-parts : (s r : Shape) → s.tokens ≡ r.tokens → s.phases ≡ r.phases → s.remaining ≡ r.remaining → s ≡ r
same-parts s r tokens phases remaining =
    let whole : shape s.tokens s.phases s.remaining ≡ shape r.tokens r.phases r.remaining = rw tokens (rw phases (rw remaining refl)) in
    whole

pub same-number : (base most : ℕ) (s r : Shape) → 1 ≤ base → IsSmallShape base most s → IsSmallShape base most r → shape_number base most s ≡ shape_number base most r → s ≡ r
unfolding shape_number
same-number base most s r some first second same =
    let outer = one-digit (lists base most) (code base s.tokens) (code base r.tokens) (code base s.phases + lists base most * code (numbers base most + 1) (map (code base) s.remaining))
    (code base r.phases + lists base most * code (numbers base most + 1) (map (code base) r.remaining))
    (list-small base most s.tokens some first.tokens first.many_tokens) (list-small base most r.tokens some second.tokens second.many_tokens) same in
    let inner = one-digit (lists base most) (code base s.phases) (code base r.phases) (code (numbers base most + 1) (map (code base) s.remaining)) (code (numbers base most + 1) (map (code base) r.remaining))
    (list-small base most s.phases some first.phases first.many_phases) (list-small base most r.phases some second.phases second.many_phases) outer.1 in
    let rows : map (code base) s.remaining ≡ map (code base) r.remaining =
    same-digits (numbers base most + 1) (map (code base) s.remaining) (map (code base) r.remaining) (rows-digits base most s.remaining some first.remaining) (rows-digits base most r.remaining some second.remaining) inner.1 in
    same-parts s r (same-digits base s.tokens r.tokens first.tokens second.tokens outer.0) (same-digits base s.phases r.phases first.phases second.phases inner.0)
    (same-rows base most s.remaining r.remaining first.remaining second.remaining rows)

-- ---- lists whose numbers are small

pub map-digits : {A : Type 0} (base : ℕ) (f : A → ℕ) (xs : List A) (d : A) → ((k : ℕ) → k < length xs → f (slice_index_or xs k d) + 1 < base) → AreDigits base (map f xs)
map-digits base f [] d small = tt
map-digits base f (x ∷ xs) d small = (small 0 (omega arith), map-digits base f xs d (λ k below. small (suc k) (omega (arith, below))))

pub range-digits : (base : ℕ) (f : ℕ → ℕ) (from many : ℕ) → ((k : ℕ) → from ≤ k → k < from + many → f k + 1 < base) → AreDigits base (map f (range_with_len from many))
range-digits base f from zero small = tt
range-digits base f from (suc many) small = (small from (omega arith) (omega arith), range-digits base f (from + 1) many (λ k after before. small k (omega (arith, after)) (omega (arith, before))))

pub range-rows : (base most : ℕ) (f : ℕ → List ℕ) (from many : ℕ) → ((k : ℕ) → from ≤ k → k < from + many → AreDigits base (f k) × (length (f k) ≤ most)) → AreRows base most (map f (range_with_len from many))
range-rows base most f from zero small = tt
range-rows base most f from (suc many) small =
    let first = small from (omega arith) (omega arith) in
    (first.0, first.1, range-rows base most f (from + 1) many (λ k after before. small k (omega (arith, after)) (omega (arith, before))))
