-- Digits from the left without leading zeros are the decimal spelling of their value.
use Rattle.std.proofs.Common.{◌≡◌, ℕ, zero, suc, ◌+◌, ◌-◌, ◌*◌, ◌/◌, ◌%◌, ◌^◌, ◌<◌, ◌≤◌, Bool, true, false, List, [], ◌∷◌, ◌++◌, length, take, drop, get_or, Ok, Err, refl, sym, ap, ◌∙◌, subst, arith, length-take, length-take-le, length-drop, inl, inr}
use Rattle.std.specs.List.{fold, position_or_len}
use Rattle.std.proofs.lemmas.List.{take-append-drop, take_all, get_or-take, get_or-drop}
use Rattle.std.proofs.lemmas.List.Sums.{fold-append, position_or_len_is, fails_before_first}
use Rattle.sd_base.specs.Numbers.{with_digit}
use Rattle.cert_text.specs.declared.reading.fault.Fault.TheVariants.{Form}
use Rattle.cert_text.specs.Fields.{number_value, number_in, is_numeral, is_other}
use Rattle.std.specs.Prelude.{slice_index}
use Rattle.std.specs.Fmt.{decimal}
use Rattle.std.proofs.lemmas.Fmt.{decimal_digit, decimal_step_wide}
use Rattle.std.proofs.lemmas.List.{take_more}
use Rattle.std.proofs.lemmas.Bool.{eqb-false, leb-true, le-leb, lt-ltb, le-ltb, cases_lt}
use Rattle.std.specs.Prelude.{not, ◌&&◌, ◌==◌, if◌then◌else◌}
use Rattle.std.proofs.Math.Dec.{leb, ltb}
use Rattle.cert_text.specs.Digits.{IsDigit, IsNumeral}
use Rattle.cert_text.proofs.WordsLeaveTheRest.{fine, ok-is}

-- a digit behind those of a number
digit-behind : (n d : ℕ) → d < 10 → 0 < n → n * 10 + d < 10 ^ 64 → decimal (n * 10 + d) ≡ decimal n ++ (48 + d) ∷ []
digit-behind n d low some small =
    let front : (n * 10 + d) / 10 ≡ n = omega arith in
    let last : (n * 10 + d) % 10 ≡ d = omega arith in
    let step = decimal_step_wide (n * 10 + d) (omega arith) small in
    rw (front, last) at step

-- one digit more
pub digit-more : (ds : List ℕ) (i n d : ℕ) → IsNumeral ds → i < length ds → d ≡ slice_index ds i - 48 → n * 10 + d < 10 ^ 64 → (0 < i → take i ds ≡ decimal n) → (i ≡ 0 → n ≡ 0)
    → (0 < i → 0 < n) → take (i + 1) ds ≡ decimal (n * 10 + d)
digit-more ds zero n d numeral within is small spelled started above =
    let none : n ≡ 0 = started refl in
    let digit = numeral.digits 0 within in
    let low : d < 10 = omega (arith, digit.low, digit.high) in
    let back : 48 + d ≡ slice_index ds 0 = omega (arith, digit.low) in
    let all : n * 10 + d ≡ d = omega (arith, none) in
    take_more ds 0 0 within ∙ (ap (λ (b : ℕ). b ∷ []) (sym back) ∙ (sym (decimal_digit d low) ∙ ap decimal (sym all)))
digit-more ds (suc i) n d numeral within is small spelled started above =
    let digit = numeral.digits (suc i) within in
    let low : d < 10 = omega (arith, digit.low, digit.high) in
    let back : 48 + d ≡ slice_index ds (suc i) = omega (arith, digit.low) in
    take_more ds (suc i) 0 within ∙ (ap (λ (l : List ℕ). l ++ slice_index ds (suc i) ∷ []) (spelled (omega arith))
    ∙ (ap (λ (b : ℕ). decimal n ++ b ∷ []) (sym back) ∙ sym (digit-behind n d low (above (omega arith)) small)))

-- the number is above 0 where more than one digit stands
pub above-more : (ds : List ℕ) (i n d : ℕ) → IsNumeral ds → i < length ds → d ≡ slice_index ds i - 48 → (0 < i → 1 < length ds → 0 < n) → 1 < length ds → 0 < n * 10 + d
above-more ds zero n d numeral within is above long = let first = numeral.zeros long in omega (arith, first, is)
above-more ds (suc i) n d numeral within is above long = let some : 0 < n = above (omega arith) long in omega (arith, some)

-- the value of one digit more
pub value-more : (ds : List ℕ) (i : ℕ) → i < length ds → number_value (take (i + 1) ds) ≡ number_value (take i ds) * 10 + (slice_index ds i - 48)
unfolding number_value
value-more ds i within = ap (λ (l : List ℕ). fold with_digit 0 l) (take_more ds i 0 within) ∙ fold-append with_digit 0 (take i ds) (get_or ds i 0 ∷ [])

pub fold-least : (n : ℕ) (ds : List ℕ) → n ≤ fold with_digit n ds
fold-least n [] = omega arith
fold-least n (d ∷ ds) = omega (arith, fold-least (with_digit n d) ds)

pub value-split : (ds : List ℕ) (i : ℕ) → number_value ds ≡ fold with_digit (number_value (take i ds)) (drop i ds)
unfolding number_value
value-split ds i = ap (λ (l : List ℕ). fold with_digit 0 l) (sym (take-append-drop i ds)) ∙ fold-append with_digit 0 (take i ds) (drop i ds)

pub value-least : (ds : List ℕ) (i : ℕ) → number_value (take i ds) ≤ number_value ds
value-least ds i = rw (value-split ds i) (fold-least (number_value (take i ds)) (drop i ds))

pub value-none : (ds : List ℕ) → number_value (take 0 ds) ≡ 0
unfolding number_value
value-none ds = refl

record Front (ds : List ℕ) (i : ℕ) : Type 0 where
  spelled : 0 < i → take i ds ≡ decimal (number_value (take i ds))
  above : 0 < i → 1 < length ds → 0 < number_value (take i ds)

front : (ds : List ℕ) → IsNumeral ds → number_value ds < 10 ^ 64 → (i : ℕ) → i ≤ length ds → Front ds i
front ds numeral small zero within = record { spelled = λ some. absurd (omega (arith, some)); above = λ some long. absurd (omega (arith, some)) }
front ds numeral small (suc i) within =
    let before = front ds numeral small i (omega arith) in
    let d : ℕ = slice_index ds i - 48 in
    let n : ℕ = number_value (take i ds) in
    let there : i < length ds = omega arith in
    let more : number_value (take (i + 1) ds) ≡ n * 10 + d = value-more ds i there in
    let least : number_value (take (i + 1) ds) ≤ number_value ds = value-least ds (i + 1) in
    let none : i ≡ 0 → n ≡ 0 = λ e. ap (λ (k : ℕ). number_value (take k ds)) e ∙ value-none ds in
    let next : i + 1 ≡ suc i = omega arith in
    subst (λ (k : ℕ). Front ds k) next (record {
      spelled = λ some. digit-more ds i n d numeral there refl (omega (arith, more, least, small)) before.spelled none (λ later. before.above later (omega (arith, there, later))) ∙ ap decimal (sym more);
      above = λ some long. let up : 0 < n * 10 + d = above-more ds i n d numeral there refl before.above long in omega (arith, up, more);
    })

-- digits without leading zeros are those of their value
pub numeral-decimal : (ds : List ℕ) → IsNumeral ds → number_value ds < 10 ^ 64 → ds ≡ decimal (number_value ds)
numeral-decimal ds numeral small =
    let all = take_all (length ds) ds (omega arith) in
    let whole = (front ds numeral small (length ds) (omega arith)).spelled numeral.some in
    rw all at whole

pub numeral-is : (ds : List ℕ) → is_numeral ds ≡ true → ((k : ℕ) → k < length ds → IsDigit (slice_index ds k)) → IsNumeral ds
unfolding is_numeral
numeral-is [] e digits = absurd cc
numeral-is (d ∷ []) e digits = record { some = omega arith; digits = digits; zeros = λ long. absurd (omega (arith, long)) }
numeral-is (d ∷ c ∷ ds) e digits = record { some = omega arith; digits = digits; zeros = λ long. let low = (digits 0 (omega arith)).low in other (d == 48) refl e low }
  where
    other : (zero_first : Bool) → (d == 48) ≡ zero_first → not zero_first ≡ true → 48 ≤ d → 48 < d
    other true is e low = absurd cc
    other false is e low = let ne = eqb-false d 48 is in grind (arith, ne)

digit-test : (b : ℕ) → IsDigit b → is_other b ≡ false
digit-test b digit = rw (le-leb 48 b digit.low, le-leb b 57 digit.high) refl

other-test : (b : ℕ) → (IsDigit b → ⊥) → is_other b ≡ true
other-test b other = split (leb 48 b) refl (leb b 57) refl
  where
    split : (low : Bool) → leb 48 b ≡ low → (high : Bool) → leb b 57 ≡ high → not (low && high) ≡ true
    split false l high h = refl
    split true l false h = refl
    split true l true h = absurd (other (record { low = leb-true 48 b l; high = leb-true b 57 h }))

pub digits-place : (text : List ℕ) (n : ℕ) → n ≤ length text → ((k : ℕ) → k < n → IsDigit (slice_index text k)) → (n < length text → IsDigit (slice_index text n) → ⊥) → n ≡ position_or_len is_other text
digits-place text n within digits stops = sym (position_or_len_is is_other text n 0 within (λ k less. digit-test (slice_index text k) (digits k less)) (λ less. other-test (slice_index text n) (stops less)))

pub number-none : (text ds : List ℕ) (n : ℕ) → n ≡ position_or_len is_other text → ds ≡ take n text → false ≡ is_numeral ds → number_in text ≡ Err Form
unfolding number_in
number-none text ds n place front test = rw (← place, ← front, ← test) refl

pub number-some : (text ds left : List ℕ) (n : ℕ) → n ≡ position_or_len is_other text → ds ≡ take n text → left ≡ drop n text → true ≡ is_numeral ds → number_in text ≡ Ok (number_value ds, left)
unfolding number_in
number-some text ds left n place front back test = rw (← place, ← front, ← back, ← test) refl

pub number-digits : (text ds : List ℕ) (n : ℕ) → n ≤ length text → ds ≡ take n text → ((k : ℕ) → k < n → IsDigit (slice_index text k)) → true ≡ is_numeral ds → IsNumeral ds
number-digits text ds n within front digits test =
    let small : length ds ≡ n = ap length front ∙ length-take-le n text within in
    numeral-is ds (sym test) (λ k less. subst IsDigit (sym (ap (λ (l : List ℕ). get_or l k 0) front ∙ get_or-take n text k 0 (omega arith))) (digits k (omega arith)))

pub split-parts : (text ds left : List ℕ) (n : ℕ) → ds ≡ take n text → left ≡ drop n text → text ≡ ds ++ left
split-parts text ds left n front back = let all = take-append-drop n text in rw (front, back) (sym all)

digit-is : (b : ℕ) → is_other b ≡ false → IsDigit b
digit-is b test = split (leb 48 b) refl (leb b 57) refl test
  where
    split : (low : Bool) → leb 48 b ≡ low → (high : Bool) → leb b 57 ≡ high → not (low && high) ≡ false → IsDigit b
    split true l true h e = record { low = leb-true 48 b l; high = leb-true b 57 h }
    split true l false h e = absurd cc
    split false l high h e = absurd cc

-- a number that is read is spelled so
pub number-sound : (text : List ℕ) (n : ℕ) (left : List ℕ) → number_in text ≡ Ok (n, left) → n < 10 ^ 64 → text ≡ decimal n ++ left
unfolding number_in
number-sound text n left read small = by_test (is_numeral (take (position_or_len is_other text) text)) refl read
  where
    by_test : (b : Bool) → is_numeral (take (position_or_len is_other text) text) ≡ b → (if b then fine {A = ℕ × List ℕ} (number_value (take (position_or_len is_other text) text), drop (position_or_len is_other text) text) else Err Form) ≡ fine {A = ℕ × List ℕ} (n, left) → text ≡ decimal n ++ left
    by_test false test e = absurd cc
    by_test true test e =
        let p : ℕ = position_or_len is_other text in
        let ds : List ℕ = take p text in
        let both : (number_value ds, drop p text) ≡ (n, left) = ok-is {A = ℕ × List ℕ} (number_value ds, drop p text) (n, left) e in
        let is : number_value ds ≡ n = ap (λ (q : ℕ × List ℕ). q.0) both in
        let back : drop p text ≡ left = ap (λ (q : ℕ × List ℕ). q.1) both in
        let size : length ds ≤ p = omega (arith, length-take p text) in
        let numeral = numeral-is ds test (λ k less. subst IsDigit (sym (get_or-take p text k 0 (omega (arith, less, size)))) (digit-is (slice_index text k) (fails_before_first is_other text k 0 (omega (arith, less, size))))) in
        let spelled : ds ≡ decimal n = numeral-decimal ds numeral (omega (arith, is, small)) ∙ ap decimal is in
        sym (take-append-drop p text) ∙ (ap (λ (l : List ℕ). l ++ drop p text) spelled ∙ ap (λ (l : List ℕ). decimal n ++ l) back)

-- ---- numbers by their digits

fold-less : (xs ys : List ℕ) (m n : ℕ) → length xs ≡ length ys → ((k : ℕ) → k < length xs → slice_index xs k ≤ 57) → m < n → fold with_digit m xs < fold with_digit n ys
fold-less [] [] m n same digits less = less
fold-less [] (y ∷ ys) m n same digits less = absurd (omega (arith, same))
fold-less (x ∷ xs) [] m n same digits less = absurd (omega (arith, same))
fold-less (x ∷ xs) (y ∷ ys) m n same digits less =
    let low = digits 0 (omega arith) in
    fold-less xs ys (with_digit m x) (with_digit n y) (omega (arith, same)) (λ k within. digits (suc k) (omega arith)) (omega (arith, low, less))

value-above : (ds : List ℕ) (i : ℕ) → IsNumeral ds → 1 < length ds → 0 < i → 0 < number_value (take i ds)
unfolding number_value
value-above [] i numeral long some = absurd (omega (arith, long))
value-above (d ∷ ds) zero numeral long some = absurd (omega (arith, some))
value-above (d ∷ ds) (suc i) numeral long some =
    let first = numeral.zeros long in
    let least = fold-least (with_digit 0 d) (take i ds) in
    omega (arith, first, least)

value-is : (ds : List ℕ) → number_value ds ≡ fold with_digit 0 ds
unfolding number_value
value-is ds = refl

less-long : (a b : List ℕ) → IsNumeral a → IsNumeral b → length a < length b → number_value a < number_value b
less-long a b is_a is_b less =
    let j : ℕ = length b - length a in
    let some : 0 < j = omega (arith, less) in
    let size : length (drop j b) ≡ length a = omega (arith, length-drop j b, less) in
    let above = value-above b j is_b (omega (arith, less, is_a.some)) some in
    rw (value-is a, value-split b j) (fold-less a (drop j b) 0 (number_value (take j b)) (sym size) (λ k within. (is_a.digits k within).high) above)

pub lengths-decide : (a b : List ℕ) → IsNumeral a → IsNumeral b → (length a ≡ length b → ⊥) → ltb (length a) (length b) ≡ ltb (number_value a) (number_value b)
lengths-decide a b is_a is_b ne = elim (cases_lt (length a) (length b)) [
  | inl less ↦ lt-ltb (length a) (length b) less ∙ sym (lt-ltb (number_value a) (number_value b) (less-long a b is_a is_b less))
  | inr le ↦ let less : length b < length a = grind (arith, ne) in let up = less-long b a is_b is_a less in le-ltb (length a) (length b) le ∙ sym (le-ltb (number_value a) (number_value b) (omega (arith, up)))
]

less-at : (a b : List ℕ) (i : ℕ) → IsNumeral a → IsNumeral b → length a ≡ length b → i < length a → number_value (take i a) ≡ number_value (take i b) → slice_index a i < slice_index b i → number_value a < number_value b
less-at a b i is_a is_b same within front less =
    let more_a = value-more a i within in
    let more_b = value-more b i (omega (arith, same, within)) in
    let low = (is_a.digits i within).low in
    let sizes : length (drop (i + 1) a) ≡ length (drop (i + 1) b) = omega (arith, length-drop (i + 1) a, length-drop (i + 1) b, same) in
    let size_a : length (drop (i + 1) a) ≡ length a - (i + 1) = length-drop (i + 1) a in
    rw (value-split a (i + 1), value-split b (i + 1)) (fold-less (drop (i + 1) a) (drop (i + 1) b) (number_value (take (i + 1) a)) (number_value (take (i + 1) b)) sizes
    (λ k there. rw (get_or-drop) ((is_a.digits (i + 1 + k) (omega (arith, there, size_a))).high)) (omega (arith, more_a, more_b, front, less, low)))

pub digits-decide : (a b : List ℕ) (i : ℕ) → IsNumeral a → IsNumeral b → length a ≡ length b → i < length a → number_value (take i a) ≡ number_value (take i b) → (slice_index a i ≡ slice_index b i → ⊥)
    → ltb (slice_index a i) (slice_index b i) ≡ ltb (number_value a) (number_value b)
digits-decide a b i is_a is_b same within front ne = elim (cases_lt (slice_index a i) (slice_index b i)) [
  | inl less ↦ lt-ltb (slice_index a i) (slice_index b i) less ∙ sym (lt-ltb (number_value a) (number_value b) (less-at a b i is_a is_b same within front less))
  | inr le ↦ let less : slice_index b i < slice_index a i = grind (arith, ne) in let up = less-at b a i is_b is_a (sym same) (omega (arith, same, within)) (sym front) less in le-ltb (slice_index a i) (slice_index b i) le ∙ sym (le-ltb (number_value a) (number_value b) (omega (arith, up)))
]

pub digits-more : (a b : List ℕ) (i : ℕ) → length a ≡ length b → i < length a → number_value (take i a) ≡ number_value (take i b) → slice_index a i ≡ slice_index b i → number_value (take (i + 1) a) ≡ number_value (take (i + 1) b)
digits-more a b i same within front e =
    let more_a = value-more a i within in
    let more_b = value-more b i (omega (arith, same, within)) in
    omega (arith, more_a, more_b, front, e)

pub digits-end : (a b : List ℕ) (i : ℕ) → length a ≡ length b → length a ≤ i → number_value (take i a) ≡ number_value (take i b) → false ≡ ltb (number_value a) (number_value b)
digits-end a b i same past front =
    let whole_a = take_all i a past in
    let whole_b = take_all i b (omega (arith, same, past)) in
    let equal : number_value a ≡ number_value b = ap number_value (sym whole_a) ∙ (front ∙ ap number_value whole_b) in
    sym (le-ltb (number_value a) (number_value b) (omega (arith, equal)))
