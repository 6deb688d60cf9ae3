-- Lists of numbers: what is read spells them, and what spells them is read.
use Rattle.std.proofs.Common.{◌≡◌, ◌≢◌, ℕ, zero, suc, ◌+◌, ◌≤◌, Bool, true, false, cond, ◌&&◌, ◌==◌, nat_lt, List, [], ◌∷◌, ◌++◌, length, replicate, sum, Option, Some, None, Ok, Err, refl, sym, ap, ◌∙◌, subst, inl, inr, arith}
use Rattle.std.specs.Prelude.{IfOk}
use Rattle.std.specs.List.{AllByRecursion, list_any, list_all, slice_split, position_or_len, before_first, after_first}
use Rattle.std.proofs.lemmas.Bool.{cases_lt, lt-ltb, le-ltb, ltb-false, eqb-false, eqb-true, ne_eqb, or_parts}
use Rattle.std.proofs.lemmas.List.{length-append, length-replicate}
use Rattle.std.proofs.lemmas.List.Elements.{All-from_recursion, recursion_from_All, All-replicate}
use Rattle.std.proofs.lemmas.List.Sums.{sum_by-cons}
use Rattle.sd_base.specs.declared.limits.Quantity.{Quantity}
use Rattle.sd_base.specs.declared.limits.Quantity.TheVariants as quantity
use Rattle.sd_base.specs.declared.tables.Kind.{Kind}
use Rattle.sd_base.specs.declared.tables.Kind.TheVariants.{Sdf, Csdf}
use Rattle.graph_reader.specs.declared.numbers.Item.{Item}
use Rattle.graph_reader.specs.declared.field.Field.{Field}
use Rattle.graph_reader.specs.declared.error.ReadError.TheVariants as error
use Rattle.graph_reader.specs.NumberTexts
use Rattle.graph_reader.specs.NumberTexts.{number_in, run, item_in, items_of, items_in, with_item, count_in, numbers_of}
use Rattle.graph_reader.specs.Spelled.{IsNumber, Spells, ArePhased}
use Rattle.graph_reader.proofs.ReaderSteps.{then, weaker, choice, then-ok, passes}

-- ---- one number

pub within : (q : Quantity) (limit n : ℕ) → IfOk (NumberTexts.within q limit n) (λ m. (m ≡ n) × (n ≤ limit))
unfolding NumberTexts.within
within q limit n =
    elim (cases_lt limit n) [
      | inl above ↦ rw (lt-ltb limit n above) tt
      | inr below ↦ rw (le-ltb limit n below) (refl, below)
    ]

pub within-again : (q : Quantity) (limit n : ℕ) → n ≤ limit → NumberTexts.within q limit n ≡ Ok n
unfolding NumberTexts.within
within-again q limit n few = rw (le-ltb limit n few) refl

formed : (what : Field) (of : List ℕ) (o : Option ℕ) → IfOk (NumberTexts.formed what of o) (λ n. o ≡ Some n)
formed what of None = tt
formed what of (Some n) = refl

pub number : (what : Field) (of : List ℕ) (q : Quantity) (limit : ℕ) (text : List ℕ) → IfOk (NumberTexts.number what of q limit text) (IsNumber limit text)
unfolding NumberTexts.number
number what of q limit text =
    then (λ n. number_in text ≡ Some n) (IsNumber limit text) (NumberTexts.formed what of (number_in text)) (λ n. NumberTexts.within q limit n) (formed what of (number_in text)) (λ n is.
    weaker (λ m. (m ≡ n) × (n ≤ limit)) (IsNumber limit text) (NumberTexts.within q limit n) (within q limit n) (λ m h. subst (IsNumber limit text) (sym h.0) (is, h.1)))

pub number-again : (what : Field) (of : List ℕ) (q : Quantity) (limit : ℕ) (text : List ℕ) (n : ℕ) → IsNumber limit text n → NumberTexts.number what of q limit text ≡ Ok n
unfolding NumberTexts.number
number-again what of q limit text n is = then-ok (NumberTexts.formed what of (number_in text)) (λ m. NumberTexts.within q limit m) n (Ok n) (ap (NumberTexts.formed what of) is.0) (within-again q limit n is.1)

pub not-zero : (n : ℕ) → 1 ≤ n → (n == 0) ≡ false
not-zero n some =
    let other : n ≢ 0 = omega arith in
    ne_eqb n 0 other

positive : (what : Field) (of : List ℕ) (q : Quantity) (limit : ℕ) (text : List ℕ) → IfOk (NumberTexts.positive what of q limit text) (λ n. IsNumber limit text n × (1 ≤ n))
unfolding NumberTexts.positive
positive what of q limit text =
    then (IsNumber limit text) (λ n. IsNumber limit text n × (1 ≤ n)) (NumberTexts.number what of q limit text) (λ n. cond (n == 0) (Err (error.BadNumber what of)) (Ok n)) (number what of q limit text) (λ n is.
    choice (λ m. IsNumber limit text m × (1 ≤ m)) (n == 0) (Err (error.BadNumber what of)) (Ok n) (λ h. tt) (λ h.
    let some : n ≢ 0 = eqb-false n 0 h in
    (is, omega arith)))

positive-again : (what : Field) (of : List ℕ) (q : Quantity) (limit : ℕ) (text : List ℕ) (n : ℕ) → IsNumber limit text n → 1 ≤ n → NumberTexts.positive what of q limit text ≡ Ok n
unfolding NumberTexts.positive
positive-again what of q limit text n is some =
    then-ok (NumberTexts.number what of q limit text) (λ m. cond (m == 0) (Err (error.BadNumber what of)) (Ok m)) n (Ok n) (number-again what of q limit text n is)
    (passes (n == 0) (Err (error.BadNumber what of)) (Ok n) (Ok n) (not-zero n some) refl)

-- ---- items

-- an item stands for one number at the least
abbrev Stands : Item → Type 0
Stands i = 1 ≤ i.count

run-stands : (count value : Option ℕ) (i : Item) → run count value ≡ Some i → Stands i
run-stands None value i is = absurd cc
run-stands (Some count) None i is = absurd cc
run-stands (Some count) (Some value) i is = cases (count == 0) refl is
  where
    cases : (b : Bool) → (count == 0) ≡ b → cond b None (Some (record { count = count; value = value })) ≡ Some i → Stands i
    cases true h e = absurd cc
    cases false h e =
        let some : count ≢ 0 = eqb-false count 0 h in
        let same : count ≡ i.count = cc in
        omega arith

item-stands : (text : List ℕ) (i : Item) → item_in text ≡ Some i → Stands i
unfolding item_in
item-stands text i is = cases (nat_lt (position_or_len (λ b. b == 42) text) (length text)) is
  where
    cases : (b : Bool) → cond b (run (number_in (before_first (λ b. b == 42) text)) (number_in (after_first (λ b. b == 42) text))) (run (Some 1) (number_in text)) ≡ Some i → Stands i
    cases true e = run-stands (number_in (before_first (λ b. b == 42) text)) (number_in (after_first (λ b. b == 42) text)) i e
    cases false e = run-stands (Some 1) (number_in text) i e

with-stands : (i : Option Item) (rest : Option (List Item)) (items : List Item) → with_item i rest ≡ Some items → ((j : Item) → i ≡ Some j → Stands j) → ((js : List Item) → rest ≡ Some js → AllByRecursion Stands js) → AllByRecursion Stands items
with-stands None rest items is first later = absurd cc
with-stands (Some i) None items is first later = absurd cc
with-stands (Some i) (Some is) items e first later =
    let same : i ∷ is ≡ items = cc in
    subst (AllByRecursion Stands) same (first i refl, later is refl)

stand : (texts : List (List ℕ)) (items : List Item) → items_of texts ≡ Some items → AllByRecursion Stands items
stand [] items is = let same : [] ≡ items = cc in subst (AllByRecursion Stands) same tt
stand (text ∷ texts) items is = with-stands (item_in text) (items_of texts) items is (item-stands text) (stand texts)

all-stand : (text : List ℕ) (items : List Item) → items_in text ≡ Some items → AllByRecursion Stands items
unfolding items_in
all-stand text items is = stand (slice_split (λ b. b == 44) text) items is

long : (items : List Item) → length (numbers_of items) ≡ count_in items
long [] = refl
long (i ∷ is) =
    let here : length (replicate i.count i.value) ≡ i.count = length-replicate {A = ℕ} i.count i.value in
    length-append (replicate i.count i.value) (numbers_of is) ∙ omega (arith, long is)

append-both : (P : ℕ → Type 0) (xs ys : List ℕ) → AllByRecursion P xs → AllByRecursion P ys → AllByRecursion P (xs ++ ys)
append-both P [] ys p q = q
append-both P (x ∷ xs) ys p q = (p.0, append-both P xs ys p.1 q)

append-parts : (P : ℕ → Type 0) (xs ys : List ℕ) → AllByRecursion P (xs ++ ys) → AllByRecursion P xs × AllByRecursion P ys
append-parts P [] ys p = (tt, p)
append-parts P (x ∷ xs) ys p = let rest = append-parts P xs ys p.1 in ((p.0, rest.0), rest.1)

abbrev Between : ℕ → ℕ → ℕ → Type 0
Between least limit n = (least ≤ n) × (n ≤ limit)

values-within : (least limit : ℕ) (items : List Item) → list_any (λ (i : Item). nat_lt limit i.value) items ≡ false → list_any (λ (i : Item). nat_lt i.value least) items ≡ false → AllByRecursion (Between least limit) (numbers_of items)
values-within least limit [] above below = tt
values-within least limit (i ∷ is) above below =
    let no_more = or_parts (nat_lt limit i.value) (list_any (λ (j : Item). nat_lt limit j.value) is) above in
    let no_less = or_parts (nat_lt i.value least) (list_any (λ (j : Item). nat_lt j.value least) is) below in
    append-both (Between least limit) (replicate i.count i.value) (numbers_of is)
    (recursion_from_All (Between least limit) (replicate i.count i.value) (All-replicate (Between least limit) i.count i.value (ltb-false i.value least no_less.0, ltb-false limit i.value no_more.0)))
    (values-within least limit is no_more.1 no_less.1)

first-of : (P : ℕ → Type 0) (n x : ℕ) → 1 ≤ n → AllByRecursion P (replicate n x) → P x
first-of P zero x some all = absurd (omega (arith, some))
first-of P (suc n) x some all = all.0

none-outside : (least limit : ℕ) (items : List Item) → AllByRecursion Stands items → AllByRecursion (Between least limit) (numbers_of items) →
    (list_any (λ (i : Item). nat_lt limit i.value) items ≡ false) × (list_any (λ (i : Item). nat_lt i.value least) items ≡ false)
none-outside least limit [] stands all = (refl, refl)
none-outside least limit (i ∷ is) stands all =
    let parts = append-parts (Between least limit) (replicate i.count i.value) (numbers_of is) all in
    let here = first-of (Between least limit) i.count i.value stands.0 parts.0 in
    let rest = none-outside least limit is stands.1 parts.1 in
    (rw (le-ltb limit i.value here.1) rest.0, rw (le-ltb i.value least here.0) rest.1)

-- ---- not all are 0

sum-more : (x : ℕ) (xs : List ℕ) → sum (x ∷ xs) ≡ x + sum xs
sum-more x xs = sum_by-cons (λ (y : ℕ). y) x xs

moves : (xs : List ℕ) → list_all (λ n. n == 0) xs ≡ false → 1 ≤ sum xs
moves [] h = absurd cc
moves (x ∷ xs) h = cases (moves xs) (x == 0) refl h
  where
    cases : (list_all (λ n. n == 0) xs ≡ false → 1 ≤ sum xs) → (b : Bool) → (x == 0) ≡ b → (b && list_all (λ n. n == 0) xs) ≡ false → 1 ≤ sum (x ∷ xs)
    cases later true e k = omega (arith, later k, sum-more x xs)
    cases later false e k =
        let some : x ≢ 0 = eqb-false x 0 e in
        omega (arith, sum-more x xs)

not-all-zero : (xs : List ℕ) → 1 ≤ sum xs → list_all (λ n. n == 0) xs ≡ false
not-all-zero [] some = absurd (omega (arith, some))
not-all-zero (x ∷ xs) some = cases (not-all-zero xs) (x == 0) refl
  where
    cases : (1 ≤ sum xs → list_all (λ n. n == 0) xs ≡ false) → (b : Bool) → (x == 0) ≡ b → (b && list_all (λ n. n == 0) xs) ≡ false
    cases later true e =
        let none : x ≡ 0 = eqb-true x 0 e in
        later (omega (arith, some, sum-more x xs))
    cases later false e = refl

-- ---- lists

tested : (least : ℕ) (what : Field) (of : List ℕ) (q : Quantity) (limit : ℕ) (items : List Item) → IfOk (NumberTexts.tested_items least what of q limit items) (λ ns. (ns ≡ numbers_of items) × ArePhased least limit ns)
unfolding NumberTexts.tested_items
tested least what of q limit items =
    let Q : List ℕ → Type 0 = λ ns. (ns ≡ numbers_of items) × ArePhased least limit ns in
    then (λ (x : List Item). list_any (λ (i : Item). nat_lt limit i.value) items ≡ false) Q (NumberTexts.all_within q limit items) _
    (choice (λ (x : List Item). list_any (λ (i : Item). nat_lt limit i.value) items ≡ false) (list_any (λ (i : Item). nat_lt limit i.value) items) _ (Ok items) (λ h. tt) (λ h. h)) (λ x above.
    then (λ (y : List Item). list_any (λ (i : Item). nat_lt i.value least) items ≡ false) Q (NumberTexts.none_below least what of items) _
    (choice (λ (y : List Item). list_any (λ (i : Item). nat_lt i.value least) items ≡ false) (list_any (λ (i : Item). nat_lt i.value least) items) _ (Ok items) (λ h. tt) (λ h. h)) (λ y below.
    then (λ m. (m ≡ count_in items) × (count_in items ≤ 4096)) Q (NumberTexts.within quantity.Phases 4096 (count_in items)) _ (within quantity.Phases 4096 (count_in items)) (λ m few.
    choice Q (list_all (λ n. n == 0) (numbers_of items)) _ (Ok (numbers_of items)) (λ h. tt) (λ h. (
      refl,
      record {
        within = All-from_recursion (Between least limit) (numbers_of items) (values-within least limit items above below);
        few = rw long few.1;
        moves = moves (numbers_of items) h;
      },
    )))))

tested-again : (least : ℕ) (what : Field) (of : List ℕ) (q : Quantity) (limit : ℕ) (items : List Item) → AllByRecursion Stands items → ArePhased least limit (numbers_of items) → NumberTexts.tested_items least what of q limit items ≡ Ok (numbers_of items)
unfolding NumberTexts.tested_items
tested-again least what of q limit items stands are =
    let ns = numbers_of items in
    let outside = none-outside least limit items stands (recursion_from_All (Between least limit) ns are.within) in
    let few : count_in items ≤ 4096 = omega (arith, long items, are.few) in
    then-ok (NumberTexts.all_within q limit items) _ items (Ok ns) (passes (list_any (λ (i : Item). nat_lt limit i.value) items) _ (Ok items) (Ok items) outside.0 refl) (
    then-ok (NumberTexts.none_below least what of items) _ items (Ok ns) (passes (list_any (λ (i : Item). nat_lt i.value least) items) _ (Ok items) (Ok items) outside.1 refl) (
    then-ok (NumberTexts.within quantity.Phases 4096 (count_in items)) _ (count_in items) (Ok ns) (within-again quantity.Phases 4096 (count_in items) few) (
    passes (list_all (λ n. n == 0) ns) _ (Ok ns) (Ok ns) (not-all-zero ns are.moves) refl)))

formed_items : (what : Field) (of : List ℕ) (o : Option (List Item)) → IfOk (NumberTexts.formed_items what of o) (λ items. o ≡ Some items)
formed_items what of None = tt
formed_items what of (Some items) = refl

list_found : (least : ℕ) (what : Field) (of : List ℕ) (q : Quantity) (limit : ℕ) (text : List ℕ) → IfOk (NumberTexts.number_list least what of q limit text) (λ ns. Spells Csdf text ns × ArePhased least limit ns)
unfolding NumberTexts.number_list
list_found least what of q limit text =
    then (λ items. items_in text ≡ Some items) _ (NumberTexts.formed_items what of (items_in text)) _ (formed_items what of (items_in text)) (λ items is.
    weaker (λ ns. (ns ≡ numbers_of items) × ArePhased least limit ns) (λ ns. Spells Csdf text ns × ArePhased least limit ns) (NumberTexts.tested_items least what of q limit items) (tested least what of q limit items) (λ ns h.
    ((items, is, h.0), h.1)))

list_again : (least : ℕ) (what : Field) (of : List ℕ) (q : Quantity) (limit : ℕ) (text ns : List ℕ) → Spells Csdf text ns → ArePhased least limit ns → NumberTexts.number_list least what of q limit text ≡ Ok ns
unfolding NumberTexts.number_list
list_again least what of q limit text ns spells are =
    let items = spells.0 in
    then-ok (NumberTexts.formed_items what of (items_in text)) _ items (Ok ns) (ap (NumberTexts.formed_items what of) spells.1)
    (tested-again least what of q limit items (all-stand text items spells.1) (subst (ArePhased least limit) spells.2 are) ∙ ap Ok (sym spells.2))

single : (least limit n : ℕ) → least ≤ 1 → 1 ≤ n → n ≤ limit → ArePhased least limit (n ∷ [])
single least limit n from some few = record {
  within = All-from_recursion (Between least limit) (n ∷ []) ((omega arith, few), tt);
  few = omega arith;
  moves = omega arith;
}

-- numbers that are read are spelled
pub found : (kind : Kind) (least : ℕ) (what : Field) (of : List ℕ) (q : Quantity) (limit : ℕ) (text : List ℕ) → least ≤ 1 → IfOk (NumberTexts.numbers kind least what of q limit text) (λ ns. Spells kind text ns × ArePhased least limit ns)
unfolding NumberTexts.numbers
found Sdf least what of q limit text from =
    then (λ n. IsNumber limit text n × (1 ≤ n)) (λ ns. Spells Sdf text ns × ArePhased least limit ns) (NumberTexts.positive what of q limit text) _ (positive what of q limit text) (λ n is.
    ((n, is.0.0, refl), single least limit n from is.1 is.0.1))
found Csdf least what of q limit text from = list_found least what of q limit text

one-moves : (n : ℕ) → 1 ≤ sum (n ∷ []) → 1 ≤ n
one-moves n some = omega (arith, some)

-- and numbers that are spelled are read
pub again : (kind : Kind) (least : ℕ) (what : Field) (of : List ℕ) (q : Quantity) (limit : ℕ) (text ns : List ℕ) → Spells kind text ns → ArePhased least limit ns → NumberTexts.numbers kind least what of q limit text ≡ Ok ns
unfolding NumberTexts.numbers
again Sdf least what of q limit text ns spells are =
    let n = spells.0 in
    let one : ArePhased least limit (n ∷ []) = subst (ArePhased least limit) spells.2 are in
    let fits : n ≤ limit = (one.within 0 0 (omega arith)).1 in
    then-ok (NumberTexts.positive what of q limit text) _ n (Ok ns) (positive-again what of q limit text n (spells.1, fits) (one-moves n one.moves)) (ap Ok (sym spells.2))
again Csdf least what of q limit text ns spells are = list_again least what of q limit text ns spells are

-- in a synchronous graph they are one number
pub one_long : (kind : Kind) (text ns : List ℕ) → Spells kind text ns → kind ≡ Sdf → length ns ≡ 1
one_long Sdf text ns spells is = ap length spells.2
one_long Csdf text ns spells is = absurd cc
