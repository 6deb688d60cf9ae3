-- A text cut at its first `=`.
use Rattle.std.proofs.Common.{◌≡◌, ℕ, ◌+◌, ◌<◌, Bool, true, false, not, cond, ◌&&◌, eqb, ltb, List, [], ◌∷◌, ◌++◌, length, get_or, take, drop, refl, ap, ◌∙◌, arith, add-zero, le_refl}
use Rattle.std.specs.List.{list_all, position_or_len, before_first, after_first}
use Rattle.std.proofs.lemmas.Bool.{lt-ltb, le-ltb, ltb-true, not-false}
use Rattle.std.proofs.lemmas.Bool.Decides.{Decides-eqb}
use Rattle.std.proofs.lemmas.List.{length-append, append-nil}
use Rattle.std.proofs.lemmas.List.Sums.{split_at_first, prefix_len_stops}
use Rattle.std.proofs.Math.Seq.{take-append_seam, drop-append-add}

abbrev pub is_equals : ℕ → Bool
is_equals b = eqb b 61

-- the text has no `=`
abbrev pub is_whole : List ℕ → Bool
is_whole text = list_all (λ b. not (is_equals b)) text

both : (x y : Bool) → (not x && y) ≡ true → (x ≡ false) × (y ≡ true)
both true y e = absurd (cc)
both false y e = (refl, e)

-- the first `=` of a text that begins without one
pub position-whole : (n t : List ℕ) → is_whole n ≡ true → position_or_len is_equals (n ++ t) ≡ length n + position_or_len is_equals t
position-whole [] t h = omega arith
position-whole (b ∷ n) t h =
    let p = both (is_equals b) (is_whole n) h in
    let rest : position_or_len is_equals (n ++ t) ≡ length n + position_or_len is_equals t = position-whole n t p.1 in
    ap (λ x. cond (not x) (1 + position_or_len is_equals (n ++ t)) 0) p.0 ∙ omega arith

position-all : (n : List ℕ) → is_whole n ≡ true → position_or_len is_equals n ≡ length n
position-all n h =
    let e : position_or_len is_equals (n ++ []) ≡ length n + 0 = position-whole n [] h in
    rw append-nil at (e ∙ add-zero (length n))

pub uncut : (n : List ℕ) → is_whole n ≡ true → ltb (position_or_len is_equals n) (length n) ≡ false
uncut n h = ap (λ k. ltb k (length n)) (position-all n h) ∙ le-ltb (length n) (length n) (le_refl (length n))

position-seam : (n v : List ℕ) → is_whole n ≡ true → position_or_len is_equals (n ++ 61 ∷ v) ≡ length n
position-seam n v h =
    let e : position_or_len is_equals (n ++ 61 ∷ v) ≡ length n + 0 = position-whole n (61 ∷ v) h in
    e ∙ add-zero (length n)

-- a name, `=` and a value are cut after the name
pub cut-test : (n v : List ℕ) → is_whole n ≡ true → ltb (position_or_len is_equals (n ++ 61 ∷ v)) (length (n ++ 61 ∷ v)) ≡ true
cut-test n v h =
    let longer : length (n ++ 61 ∷ v) ≡ length n + length (61 ∷ v) = length-append n (61 ∷ v) in
    let at : position_or_len is_equals (n ++ 61 ∷ v) ≡ length n = position-seam n v h in
    lt-ltb _ _ (omega arith)

pub cut-before : (n v : List ℕ) → is_whole n ≡ true → before_first is_equals (n ++ 61 ∷ v) ≡ n
cut-before n v h = ap (λ k. take k (n ++ 61 ∷ v)) (position-seam n v h) ∙ take-append_seam n (61 ∷ v)

pub cut-after : (n v : List ℕ) → is_whole n ≡ true → after_first is_equals (n ++ 61 ∷ v) ≡ v
cut-after n v h = ap (λ k. drop (k + 1) (n ++ 61 ∷ v)) (position-seam n v h) ∙ drop-append-add n (61 ∷ v) 1

-- a text that is cut is put together again
pub joined : (t : List ℕ) → ltb (position_or_len is_equals t) (length t) ≡ true → t ≡ before_first is_equals t ++ 61 ∷ after_first is_equals t
joined t h =
    let within : position_or_len is_equals t < length t = ltb-true _ _ h in
    let stops : not (is_equals (get_or t (position_or_len is_equals t) 0)) ≡ false = prefix_len_stops (λ b. not (is_equals b)) t 0 within in
    let here : get_or t (position_or_len is_equals t) 0 ≡ 61 = (Decides-eqb _ 61).0 (not-false _ stops) in
    split_at_first is_equals t 0 within ∙ ap (λ b. before_first is_equals t ++ b ∷ after_first is_equals t) here
