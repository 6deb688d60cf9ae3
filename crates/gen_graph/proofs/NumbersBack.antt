-- Numbers are read from their written texts.
use Rattle.std.proofs.Common.{◌≡◌, ℕ, ◌+◌, ◌/◌, ◌%◌, ◌^◌, ◌<◌, ◌≤◌, Bool, true, false, cond, ◌==◌, List, [], ◌∷◌, ◌++◌, length, map, Some, None, refl, sym, ap, ◌∙◌, arith}
use Rattle.std.specs.Prelude.{codes}
use Rattle.std.specs.Char.{is_ascii_digit}
use Rattle.std.specs.Fmt.{decimal}
use Rattle.std.specs.List.{All, fold, take_while, slice_split, position_or_len, flat_map}
use Rattle.std.proofs.lemmas.Bool.{and_from, le-leb, lt-ltb, ne_eqb, le-ltb}
use Rattle.std.proofs.lemmas.Fmt.{decimal_by_steps, decimal_nonempty}
use Rattle.std.proofs.lemmas.List.{append-nil}
use Rattle.std.proofs.lemmas.List.Elements.{All-nil, All-cons}
use Rattle.std.proofs.lemmas.List.Sums.{take_while-cons, position_or_len_is}
use Rattle.std.proofs.lemmas.List.Splits.{slice_split_none, slice_split_at}
use Rattle.sd_base.specs.declared.tables.Kind.{Kind}
use Rattle.sd_base.specs.declared.tables.Kind.TheVariants.{Sdf, Csdf}
use Rattle.sd_base.specs.Numbers.{with_digit}
use Rattle.file_text.specs.Grammar.{Each, is_white}
use Rattle.graph_reader.specs.declared.numbers.Item.{Item}
use Rattle.graph_reader.specs.NumberTexts.{value, drop_while, number_in, item_in, items_of, items_in, numbers_of}
use Rattle.graph_reader.specs.Spelled.{Spells}
use Rattle.gen_graph.specs.GraphTrees.{numbers_text}
use Rattle.gen_graph.proofs.TreeTexts.{IsDigit, digits_of, AreSmall}

-- ---- digits

digit_is : (b : ℕ) → IsDigit b → is_ascii_digit b ≡ true
digit_is b is = and_from _ _ (le-leb 48 b is.0) (le-leb b 57 is.1)

digit_not_white : (b : ℕ) → IsDigit b → is_white b ≡ false
digit_not_white b is = rw (ne_eqb b 32 (λ e. omega (arith, is.0)), ne_eqb b 9 (λ e. omega (arith, is.0)), ne_eqb b 10 (λ e. omega (arith, is.0)), ne_eqb b 13 (λ e. omega (arith, is.0))) refl

none_dropped : (ds : List ℕ) → Each IsDigit ds → drop_while is_white ds ≡ ds
none_dropped [] are = refl
none_dropped (d ∷ ds) are = rw (digit_not_white d are.0) refl

all_taken : (ds : List ℕ) → Each IsDigit ds → take_while is_ascii_digit ds ≡ ds
all_taken [] are = refl
all_taken (d ∷ ds) are = take_while-cons is_ascii_digit d ds ∙ rw (digit_is d are.0) (ap (λ (t : List ℕ). d ∷ t) (all_taken ds are.1))

all_dropped : (ds : List ℕ) → Each IsDigit ds → drop_while is_ascii_digit ds ≡ []
all_dropped [] are = refl
all_dropped (d ∷ ds) are = rw (digit_is d are.0) (all_dropped ds are.1)

read_digits : (d : ℕ) (ds : List ℕ) → Each IsDigit (d ∷ ds) → number_in (d ∷ ds) ≡ Some (value (d ∷ ds))
unfolding number_in
read_digits d ds are =
    rw (none_dropped (d ∷ ds) are, all_taken (d ∷ ds) are, all_dropped (d ∷ ds) are) (ap (λ (b : Bool). cond b (Some (value (d ∷ ds))) None) (and_from _ _ (lt-ltb 0 (length (d ∷ ds)) (omega arith)) refl))

one_more : (ds : List ℕ) (n d : ℕ) → fold with_digit n (ds ++ d ∷ []) ≡ with_digit (fold with_digit n ds) d
one_more [] n d = refl
one_more (e ∷ ds) n d = one_more ds (with_digit n e) d

digits_value : (n : ℕ) → n < 2 ^ 64 → value (decimal n) ≡ n
unfolding value
digits_value n small =
    decimal_by_steps (λ k ds. fold with_digit 0 ds ≡ k) (λ k lt. omega arith)
    (λ k ds le is. one_more ds 0 (48 + k % 10) ∙ (let here : fold with_digit 0 ds ≡ k / 10 = is in omega (arith, here))) n small

read_list : (ds : List ℕ) → Each IsDigit ds → 1 ≤ length ds → number_in ds ≡ Some (value ds)
read_list [] are some = absurd (omega (arith, some))
read_list (d ∷ ds) are some = read_digits d ds are

pub number_back : (n : ℕ) → n < 2 ^ 64 → number_in (decimal n) ≡ Some n
number_back n small = read_list (decimal n) (digits_of n small) (decimal_nonempty n small) ∙ ap (λ (k : ℕ). Some k) (digits_value n small)

-- ---- lists

-- no byte of a number is this one
apart : (c : ℕ) → c < 48 → (ds : List ℕ) → Each IsDigit ds → All (λ b. b == c ≡ false) ds
apart c low [] are = All-nil (λ b. b == c ≡ false)
apart c low (d ∷ ds) are = All-cons (λ b. b == c ≡ false) d ds (ne_eqb d c (λ e. omega (arith, are.0.0))) (apart c low ds are.1)

item_back : (n : ℕ) → n < 2 ^ 64 → item_in (decimal n) ≡ Some (record { count = 1; value = n })
unfolding item_in
item_back n small =
    let ds = decimal n in
    let none : position_or_len (λ (b : ℕ). b == 42) ds ≡ length ds =
    position_or_len_is (λ (b : ℕ). b == 42) ds (length ds) 0 (omega arith) (λ k lt. apart 42 (omega arith) ds (digits_of n small) k 0 lt) (λ lt. absurd (omega (arith, lt))) in
    rw (none, le-ltb (length ds) (length ds) (omega arith), number_back n small) refl

split_list : (n : ℕ) (ns : List ℕ) → n < 2 ^ 64 → AreSmall ns → slice_split (λ b. b == 44) (decimal n ++ flat_map (λ m. codes "," ++ decimal m) ns) ≡ decimal n ∷ map decimal ns
split_list n [] small are =
    ap (λ (t : List ℕ). slice_split (λ b. b == 44) t) (append-nil (decimal n)) ∙ slice_split_none (λ b. b == 44) (decimal n) (apart 44 (omega arith) (decimal n) (digits_of n small))
split_list n (m ∷ ms) small are =
    slice_split_at (λ b. b == 44) (decimal n) 44 (decimal m ++ flat_map (λ k. codes "," ++ decimal k) ms) (apart 44 (omega arith) (decimal n) (digits_of n small)) refl
    ∙ ap (λ (ts : List (List ℕ)). decimal n ∷ ts) (split_list m ms are.0 are.1)

single : ℕ → Item
single n = record { count = 1; value = n }

each_item : (ns : List ℕ) → AreSmall ns → items_of (map decimal ns) ≡ Some (map single ns)
unfolding single
each_item [] are = refl
each_item (n ∷ ns) are = rw (item_back n are.0, each_item ns are.1) refl

each_number : (ns : List ℕ) → numbers_of (map single ns) ≡ ns
unfolding single
each_number [] = refl
each_number (n ∷ ns) = ap (λ (t : List ℕ). n ∷ t) (each_number ns)

list_spelled : (ns : List ℕ) → 1 ≤ length ns → AreSmall ns → Spells Csdf (numbers_text ns) ns
unfolding numbers_text items_in
list_spelled [] some are = absurd (omega (arith, some))
list_spelled (n ∷ ns) some are = (map single (n ∷ ns), ap items_of (split_list n ns are.0 are.1) ∙ each_item (n ∷ ns) are, sym (each_number (n ∷ ns)))

one_spelled : (ns : List ℕ) → length ns ≡ 1 → AreSmall ns → Spells Sdf (numbers_text ns) ns
unfolding numbers_text
one_spelled [] one are = absurd (omega (arith, one))
one_spelled (n ∷ []) one are = (n, ap number_in (append-nil (decimal n)) ∙ number_back n are.0, refl)
one_spelled (n ∷ (m ∷ ms)) one are = absurd (omega (arith, one))

-- numbers by phase, one in a synchronous graph
pub spelled_back : (k : Kind) (ns : List ℕ) → 1 ≤ length ns → (k ≡ Sdf → length ns ≡ 1) → AreSmall ns → Spells k (numbers_text ns) ns
spelled_back Sdf ns some one are = one_spelled ns (one refl) are
spelled_back Csdf ns some one are = list_spelled ns some are
