-- Numbers and words are read from their spellings.
use Rattle.std.proofs.Common.{◌≡◌, ℕ, ◌+◌, ◌-◌, ◌*◌, ◌/◌, ◌%◌, ◌^◌, ◌<◌, ◌≤◌, Bool, true, false, List, [], ◌∷◌, ◌++◌, length, Ok, refl, ap, ◌∙◌, arith, inl, inr, take_at, drop_at}
use Rattle.std.specs.Prelude.{◌==◌, ◌&&◌}
use Rattle.std.specs.List.{position_or_len}
use Rattle.std.specs.Fmt.{decimal}
use Rattle.std.proofs.lemmas.Bool.{le-leb, cases_lt, eq-eqb, ne_eqb}
use Rattle.std.proofs.lemmas.Fmt.{decimal_by_steps_wide}
use Rattle.std.proofs.lemmas.List.Sums.{fold-append}
use Rattle.cert_text.specs.Fields.{behind, number_in, number_value, is_numeral, is_digit, is_other}

-- whether each byte is a digit
unfoldable pub all_digits : List ℕ → Bool
all_digits [] = true
all_digits (b ∷ bs) = is_digit b && all_digits bs

-- digits of a number, the first of which isn't 0 where there are more
pub record AreDigits (n : ℕ) (ds : List ℕ) : Type 0 where
  pub first : ℕ
  pub others : List ℕ
  pub parts : ds ≡ first ∷ others
  pub low : 48 ≤ first
  pub high : first ≤ 57
  pub digits : all_digits ds ≡ true
  pub value : number_value ds ≡ n
  pub above : 0 < n → 48 < first
  pub below : n < 10 → others ≡ []

pub digit-yes : (b : ℕ) → 48 ≤ b → b ≤ 57 → is_digit b ≡ true
digit-yes b low high = rw (le-leb 48 b low, le-leb b 57 high) refl

digits-more : (bs : List ℕ) (b : ℕ) → all_digits bs ≡ true → is_digit b ≡ true → all_digits (bs ++ b ∷ []) ≡ true
unfolding all_digits
digits-more [] b all one = rw one refl
digits-more (c ∷ bs) b all one = split (is_digit c) all (λ h. digits-more bs b h one)
  where
    split : (d : Bool) → (d && all_digits bs) ≡ true → (all_digits bs ≡ true → all_digits (bs ++ b ∷ []) ≡ true) → (d && all_digits (bs ++ b ∷ [])) ≡ true
    split true h more = more h
    split false h more = absurd cc

one-digit : (n : ℕ) → n < 10 → AreDigits n ((48 + n) ∷ [])
unfolding all_digits number_value
one-digit n small = record {
  first = 48 + n;
  others = [];
  parts = refl;
  low = omega arith;
  high = omega arith;
  digits = rw (digit-yes (48 + n) (omega arith) (omega arith)) refl;
  value = omega arith;
  above = λ some. omega (arith, some);
  below = λ h. refl;
}

more-digits : (n : ℕ) (ds : List ℕ) → 10 ≤ n → AreDigits (n / 10) ds → AreDigits n (ds ++ (48 + n % 10) ∷ [])
unfolding number_value
more-digits n ds large h =
    let last : n % 10 < 10 = omega arith in
    let up : 0 < n / 10 = omega arith in
    record {
      first = h.first;
      others = h.others ++ (48 + n % 10) ∷ [];
      parts = ap (λ (l : List ℕ). l ++ (48 + n % 10) ∷ []) h.parts;
      low = h.low;
      high = h.high;
      digits = digits-more ds (48 + n % 10) h.digits (digit-yes (48 + n % 10) (omega arith) (omega arith));
      value = fold-append (λ (m d : ℕ). m * 10 + (d - 48)) 0 ds ((48 + n % 10) ∷ []) ∙ (ap (λ (m : ℕ). m * 10 + ((48 + n % 10) - 48)) h.value ∙ omega arith);
      above = λ some. h.above up;
      below = λ less. absurd (omega (arith, less, large));
    }

pub digits-of : (n : ℕ) → n < 10 ^ 64 → AreDigits n (decimal n)
digits-of = decimal_by_steps_wide (λ m ds. AreDigits m ds) one-digit more-digits

-- the digits end in front of another byte
place-of : (ds : List ℕ) (b : ℕ) (rest : List ℕ) → all_digits ds ≡ true → is_other b ≡ true → position_or_len is_other (ds ++ (b ∷ rest)) ≡ length ds
unfolding all_digits
place-of [] b rest all other = rw other refl
place-of (d ∷ ds) b rest all other = split (is_digit d) refl all (λ h. place-of ds b rest h other)
  where
    split : (t : Bool) → is_digit d ≡ t → (t && all_digits ds) ≡ true → (all_digits ds ≡ true → position_or_len is_other (ds ++ (b ∷ rest)) ≡ length ds) → position_or_len is_other ((d ∷ ds) ++ (b ∷ rest)) ≡ length (d ∷ ds)
    split true e h more = let next = more h in rw (e, next) (omega arith)
    split false e h more = absurd cc

numeral-of : (n : ℕ) (ds : List ℕ) → AreDigits n ds → is_numeral ds ≡ true
unfolding is_numeral
numeral-of n [] h = absurd (cc (h.parts))
numeral-of n (d ∷ []) h = refl
numeral-of n (d ∷ e ∷ ds) h = elim (cases_lt n 10) [
  | inl less ↦ let none = h.below less in let parts = h.parts in absurd cc
  | inr large ↦
      let up = h.above (omega arith) in
      let first : d ≡ h.first = let parts = h.parts in cc in
      rw (ne_eqb d 48 (omega (arith, up, first))) refl
]

-- a number in front of a byte that isn't a digit
pub number-front : (b : ℕ) → is_other b ≡ true → (n : ℕ) → n < 10 ^ 64 → (rest : List ℕ) → number_in (decimal n ++ (b ∷ rest)) ≡ Ok (n, b ∷ rest)
unfolding number_in
number-front b other n small rest =
    let h = digits-of n small in
    let place = place-of (decimal n) b rest h.digits other in
    rw (place, take_at (decimal n) (b ∷ rest) (length (decimal n)) refl, drop_at (decimal n) (b ∷ rest) (length (decimal n)) refl, numeral-of n (decimal n) h, h.value) refl

-- of 64 bits
pub long-front : (b : ℕ) → is_other b ≡ true → (n : ℕ) → n ≤ 18446744073709551615 → (rest : List ℕ) → number_in (decimal n ++ (b ∷ rest)) ≡ Ok (n, b ∷ rest)
long-front b other n small rest = number-front b other n (omega arith) rest

pub behind-front : (w rest : List ℕ) → behind w (w ++ rest) ≡ Ok rest
unfolding behind
behind-front [] rest = refl
behind-front (c ∷ w) rest = rw (eq-eqb c c refl) (behind-front w rest)

-- a number has no sign
pub not-hyphen : (n : ℕ) (rest : List ℕ) → n < 10 ^ 64 → (first : ℕ) × (left : List ℕ) × (decimal n ++ rest ≡ first ∷ left) × ((first == 45) ≡ false)
not-hyphen n rest small =
    let h = digits-of n small in
    let low = h.low in
    (h.first, h.others ++ rest, ap (λ (l : List ℕ). l ++ rest) h.parts, ne_eqb h.first 45 (omega (arith, low)))
