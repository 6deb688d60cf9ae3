-- Items of a list, read one after another, and held at a greatest number.
use Rattle.std.proofs.Common.{◌≡◌, ℕ, ◌+◌, ◌<◌, ◌≤◌, Bool, true, false, cond, ◌==◌, ◌||◌, nat_lt, min, List, [], ◌∷◌, ◌++◌, length, map, take, get_or, replicate, Option, Some, None, Result, Ok, Err, refl, sym, ap, ◌∙◌, subst, inl, inr, arith, append_assoc, append-nil}
use Rattle.std.specs.List.{list_any, slice_split, position_or_len, before_first, after_first}
use Rattle.std.specs.Option.{option_map}
use Rattle.std.proofs.lemmas.Bool.{cases_lt, lt-ltb, le-ltb, or_parts, ltb-false}
use Rattle.std.proofs.lemmas.List.Sums.{fails_before_first}
use Rattle.std.proofs.lemmas.List.{take_more}
use Rattle.std.proofs.lemmas.List.Splits.{slice_split_first, slice_split_none}
use Rattle.sd_base.specs.declared.limits.Quantity.{Quantity}
use Rattle.sd_base.specs.declared.limits.Quantity.TheVariants as quantity
use Rattle.graph_reader.specs.declared.numbers.Item.{Item}
use Rattle.graph_reader.specs.declared.field.Field.{Field}
use Rattle.graph_reader.specs.declared.error.ReadError.{ReadError}
use Rattle.graph_reader.specs.declared.error.ReadError.TheVariants as error
use Rattle.graph_reader.specs.TreeSteps.{◌>>=◌}
use Rattle.graph_reader.specs.NumberTexts
use Rattle.graph_reader.specs.NumberTexts.{item_in, items_of, items_in, with_item, count_in, numbers_of}
use Rattle.graph_reader.specs.inside.Capped.{capped}

-- the items of texts, held at a greatest number, after some others
abbrev pub after : List Item → Option (List Item) → Option (List Item)
after items rest = option_map (λ is. items ++ map capped is) rest

abbrev pub comma : ℕ → Bool
comma b = b == 44

step : (items pushed : List Item) (i : Item) (o : Option Item) (rest : Option (List Item)) → pushed ≡ items ++ i ∷ [] → Some i ≡ option_map capped o → after pushed rest ≡ after items (with_item o rest)
step items pushed i None rest push is = absurd cc
step items pushed i (Some j) None push is = refl
step items pushed i (Some j) (Some is) push same =
    let one : i ≡ capped j = cc in
    rw (push, one) (ap Some (append_assoc items (capped j ∷ []) (map capped is)))

-- one more item, up to a comma
pub items-more : (items pushed : List Item) (i : Item) (text first rest : List ℕ) (all : Option (List Item)) → pushed ≡ items ++ i ∷ [] → position_or_len comma text < length text → first ≡ before_first comma text → rest ≡ after_first comma text →
    Some i ≡ option_map capped (item_in first) → after items (items_of (slice_split comma text)) ≡ all → after pushed (items_of (slice_split comma rest)) ≡ all
items-more items pushed i text first rest all push found is_first is_rest is so_far =
    let split : slice_split comma text ≡ before_first comma text ∷ slice_split comma (after_first comma text) = slice_split_first comma text 0 found in
    let here : Some i ≡ option_map capped (item_in (before_first comma text)) = subst (λ (t : List ℕ). Some i ≡ option_map capped (item_in t)) is_first is in
    rw is_rest (step items pushed i (item_in (before_first comma text)) (items_of (slice_split comma (after_first comma text))) push here
    ∙ ap (λ (ts : List (List ℕ)). after items (items_of ts)) (sym split) ∙ so_far)

bad : (items : List Item) (o : Option Item) (rest : Option (List Item)) → None ≡ option_map capped o → None ≡ after items (with_item o rest)
bad items None rest is = refl
bad items (Some j) rest is = absurd cc

-- an item that is none, up to a comma
pub items-bad : (items : List Item) (text first : List ℕ) (all : Option (List Item)) → position_or_len comma text < length text → first ≡ before_first comma text →
    None ≡ option_map capped (item_in first) → after items (items_of (slice_split comma text)) ≡ all → None ≡ all
items-bad items text first all found is_first is so_far =
    let split : slice_split comma text ≡ before_first comma text ∷ slice_split comma (after_first comma text) = slice_split_first comma text 0 found in
    let here : None ≡ option_map capped (item_in (before_first comma text)) = subst (λ (t : List ℕ). None ≡ option_map capped (item_in t)) is_first is in
    bad items (item_in (before_first comma text)) (items_of (slice_split comma (after_first comma text))) here ∙ ap (λ (ts : List (List ℕ)). after items (items_of ts)) (sym split) ∙ so_far

no-split : (p : ℕ → Bool) (xs : List ℕ) → position_or_len p xs ≡ length xs → slice_split p xs ≡ xs ∷ []
no-split p xs none = slice_split_none p xs (λ k d below. fails_before_first p xs k d (omega arith))

-- the last item
pub items-last : (items pushed : List Item) (i : Item) (text : List ℕ) (all : Option (List Item)) → pushed ≡ items ++ i ∷ [] → position_or_len comma text ≡ length text →
    Some i ≡ option_map capped (item_in text) → after items (items_of (slice_split comma text)) ≡ all → Some pushed ≡ all
items-last items pushed i text all push none is so_far =
    let whole : slice_split comma text ≡ text ∷ [] = no-split comma text none in
    ap Some (sym (append-nil pushed)) ∙ step items pushed i (item_in text) (Some []) push is ∙ ap (λ (ts : List (List ℕ)). after items (items_of ts)) (sym whole) ∙ so_far

pub last-bad : (items : List Item) (text : List ℕ) (all : Option (List Item)) → position_or_len comma text ≡ length text → None ≡ option_map capped (item_in text) → after items (items_of (slice_split comma text)) ≡ all → None ≡ all
last-bad items text all none is so_far =
    let whole : slice_split comma text ≡ text ∷ [] = no-split comma text none in
    bad items (item_in text) (Some []) is ∙ ap (λ (ts : List (List ℕ)). after items (items_of ts)) (sym whole) ∙ so_far

pub items-are : (text : List ℕ) → option_map (map capped) (items_of (slice_split comma text)) ≡ option_map (map capped) (items_in text)
unfolding items_in
items-are text = refl

-- ---- numbers of items

numbers-append : (xs ys : List Item) → numbers_of (xs ++ ys) ≡ numbers_of xs ++ numbers_of ys
numbers-append [] ys = refl
numbers-append (x ∷ xs) ys = ap (λ (ns : List ℕ). replicate x.count x.value ++ ns) (numbers-append xs ys) ∙ sym (append_assoc (replicate x.count x.value) (numbers_of xs) (numbers_of ys))

pub numbers-more : (items : List Item) (k : ℕ) (i d : Item) (list more : List ℕ) → k < length items → i ≡ get_or items k d → list ≡ numbers_of (take k items) → more ≡ list ++ replicate i.count i.value → more ≡ numbers_of (take (k + 1) items)
numbers-more items k i d list more below here so_far push =
    let next : take (k + 1) items ≡ take k items ++ get_or items k d ∷ [] = take_more items k d below in
    let same : take k items ++ get_or items k d ∷ [] ≡ take k items ++ i ∷ [] = ap (λ (j : Item). take k items ++ j ∷ []) (sym here) in
    let one : numbers_of (i ∷ []) ≡ replicate i.count i.value = append-nil (replicate i.count i.value) in
    push ∙ ap (λ (ns : List ℕ). ns ++ replicate i.count i.value) so_far
    ∙ ap (λ (ns : List ℕ). numbers_of (take k items) ++ ns) (sym one) ∙ sym (numbers-append (take k items) (i ∷ [])) ∙ ap numbers_of (sym (next ∙ same))

-- ---- items that are held at a greatest number pass the same tests

above-capped : (limit c v : ℕ) → limit < c → nat_lt limit (min v c) ≡ nat_lt limit v
above-capped limit c v below =
    elim (cases_lt limit v) [
      | inl above ↦
          let held : limit < min v c = omega arith in
          lt-ltb limit (min v c) held ∙ sym (lt-ltb limit v above)
      | inr within ↦
          let held : min v c ≤ limit = omega arith in
          le-ltb limit (min v c) held ∙ sym (le-ltb limit v within)
    ]

below-capped : (least c v : ℕ) → least < c → nat_lt (min v c) least ≡ nat_lt v least
below-capped least c v below =
    elim (cases_lt v least) [
      | inl under ↦
          let held : min v c < least = omega arith in
          lt-ltb (min v c) least held ∙ sym (lt-ltb v least under)
      | inr over ↦
          let held : least ≤ min v c = omega arith in
          le-ltb (min v c) least held ∙ sym (le-ltb v least over)
    ]

any-above : (limit : ℕ) (items : List Item) → limit < 1000000000000000 → list_any (λ (i : Item). nat_lt limit i.value) (map capped items) ≡ list_any (λ (i : Item). nat_lt limit i.value) items
any-above limit [] below = refl
any-above limit (i ∷ is) below = rw (above-capped limit 1000000000000000 i.value below) (ap (λ (b : Bool). nat_lt limit i.value || b) (any-above limit is below))

any-below : (least : ℕ) (items : List Item) → least < 1000000000000000 → list_any (λ (i : Item). nat_lt i.value least) (map capped items) ≡ list_any (λ (i : Item). nat_lt i.value least) items
any-below least [] below = refl
any-below least (i ∷ is) below = rw (below-capped least 1000000000000000 i.value below) (ap (λ (b : Bool). nat_lt i.value least || b) (any-below least is below))

count-capped : (items : List Item) → min (count_in (map capped items)) 4097 ≡ min (count_in items) 4097
count-capped [] = refl
count-capped (i ∷ is) = omega (arith, count-capped is)

same-items : (limit : ℕ) (items : List Item) → limit < 1000000000000000 → list_any (λ (i : Item). nat_lt limit i.value) items ≡ false → count_in items ≤ 4096 → map capped items ≡ items
same-items limit [] below none few = refl
same-items limit (i ∷ is) below none few =
    let parts = or_parts (nat_lt limit i.value) (list_any (λ (j : Item). nat_lt limit j.value) is) none in
    let value : min i.value 1000000000000000 ≡ i.value = omega (arith, ltb-false limit i.value parts.0) in
    let count : min i.count 1000000000000000 ≡ i.count = omega (arith, few) in
    let rest : count_in is ≤ 4096 = omega (arith, few) in
    let here : capped i ≡ i = ap (λ (n : ℕ). record { count = n; value = min i.value 1000000000000000 }) count ∙ ap (λ (n : ℕ). record { count = i.count; value = n }) value in
    ap (λ (j : Item). j ∷ map capped is) here ∙ ap (λ (js : List Item). i ∷ js) (same-items limit is below parts.1 rest)

-- so they give the same numbers, or the same refusal
module _ (least : ℕ) (what : Field) (of : List ℕ) (q : Quantity) (limit : ℕ) where
  end : List Item → Result (List ℕ) ReadError
  end is = NumberTexts.within quantity.Phases 4096 (count_in is) >>= λ _. NumberTexts.some_number what of (numbers_of is)

  whole : Bool → Bool → List Item → Result (List ℕ) ReadError → Result (List ℕ) ReadError
  whole above under is last = (cond above (Err (error.Limit q)) (Ok is) >>= λ _. (cond under (Err (error.BadNumber what of)) (Ok is) >>= λ _. last))

  above_in : List Item → Bool
  above_in is = list_any (λ (i : Item). nat_lt limit i.value) is

  under_in : List Item → Bool
  under_in is = list_any (λ (i : Item). nat_lt i.value least) is

  no-list : (above under : Bool) (is js : List Item) (last : Result (List ℕ) ReadError) → whole above under is last ≡ whole above under js last
  unfolding whole
  no-list true under is js last = refl
  no-list false true is js last = refl
  no-list false false is js last = refl

  refused : (under : Bool) (is js : List Item) (x y : Result (List ℕ) ReadError) → whole true under is x ≡ whole true under js y
  unfolding whole
  refused under is js x y = refl

  too-many : (is : List Item) → 4096 < count_in is → end is ≡ Err (error.Limit quantity.Phases)
  unfolding NumberTexts.within end
  too-many is many = rw (lt-ltb 4096 (count_in is) many) refl

  same-end : (items : List Item) → limit < 1000000000000000 → above_in items ≡ false → end (map capped items) ≡ end items
  unfolding above_in
  same-end items below none =
      elim (cases_lt 4096 (count_in items)) [
        | inl many ↦
            let held : 4096 < count_in (map capped items) = omega (arith, count-capped items) in
            too-many (map capped items) held ∙ sym (too-many items many)
        | inr few ↦ ap end (same-items limit items below none few)
      ]

  same-whole : (b : Bool) (items : List Item) → limit < 1000000000000000 → above_in items ≡ b → (under : Bool) → whole b under (map capped items) (end (map capped items)) ≡ whole b under items (end items)
  same-whole true items below is under = refused under (map capped items) items (end (map capped items)) (end items)
  same-whole false items below is under = ap (whole false under (map capped items)) (same-end items below is) ∙ no-list false under (map capped items) items (end items)

  pub tested-capped : (items : List Item) → limit < 1000000000000000 → least < 1000000000000000 → NumberTexts.tested_items least what of q limit (map capped items) ≡ NumberTexts.tested_items least what of q limit items
  unfolding NumberTexts.tested_items under_in whole above_in end
  tested-capped items below low =
      ap (λ (b : Bool). whole b (under_in (map capped items)) (map capped items) (end (map capped items))) (any-above limit items below)
      ∙ ap (λ (b : Bool). whole (above_in items) b (map capped items) (end (map capped items))) (any-below least items low)
      ∙ same-whole (above_in items) items below refl (under_in items)

  pub list-read : (o : Option (List Item)) (held : List Item) → limit < 1000000000000000 → least < 1000000000000000 → Some held ≡ option_map (map capped) o →
      NumberTexts.tested_items least what of q limit held ≡ (NumberTexts.formed_items what of o >>= λ items. NumberTexts.tested_items least what of q limit items)
  list-read None held below low is = absurd cc
  list-read (Some items) held below low is =
      let same : held ≡ map capped items = cc in
      ap (NumberTexts.tested_items least what of q limit) same ∙ tested-capped items below low
