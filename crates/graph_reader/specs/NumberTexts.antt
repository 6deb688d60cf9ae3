-- Numbers of a graph file: white, digits, white; lists of them; and their limits.
use Rattle.std.specs.Prelude.{ℕ, ◌+◌, Bool, ◌&&◌, ◌==◌, nat_lt, if◌then◌else◌, List, [], ◌∷◌, ◌++◌, length, replicate, Option, Some, None, Result, Ok, Err}
use Rattle.std.specs.List.{fold, take_while, list_any, list_all, slice_split, position_or_len, before_first, after_first}
use Rattle.std.specs.Option.{option_map}
use Rattle.std.specs.Char.{is_ascii_digit}
use Rattle.sd_base.specs.declared.limits.Quantity.{Quantity}
use Rattle.sd_base.specs.declared.limits.Quantity.TheVariants as quantity
use Rattle.sd_base.specs.declared.limits.TheConstants.{PHASES}
use Rattle.sd_base.specs.declared.tables.Kind.{Kind}
use Rattle.sd_base.specs.declared.tables.Kind.TheVariants.{Sdf, Csdf}
use Rattle.sd_base.specs.Numbers.{with_digit}
use Rattle.file_text.specs.Grammar.{is_white}
use Rattle.graph_reader.specs.declared.numbers.Item.{Item}
use Rattle.graph_reader.specs.declared.field.Field.{Field}
use Rattle.graph_reader.specs.declared.error.ReadError.{ReadError}
use Rattle.graph_reader.specs.declared.error.ReadError.TheVariants.{BadNumber, Limit}
use Rattle.graph_reader.specs.TreeSteps.{◌>>=◌}

-- what is left from the first byte on that fails the test
abbrev pub drop_while : (ℕ → Bool) → List ℕ → List ℕ
drop_while test [] = []
drop_while test (b ∷ bs) = if test b then drop_while test bs else (b ∷ bs)

-- the number that digits spell
unfoldable pub value : List ℕ → ℕ
value digits = fold with_digit 0 digits

-- the digits after white
abbrev pub digits_in : List ℕ → List ℕ
digits_in text = take_while is_ascii_digit (drop_while is_white text)

-- what stands after white, digits and white
abbrev pub after_number : List ℕ → List ℕ
after_number text = drop_while is_white (drop_while is_ascii_digit (drop_while is_white text))

-- the number of a text that is white, at least one digit, and white
unfoldable pub number_in : List ℕ → Option ℕ
number_in text = if nat_lt 0 (length (digits_in text)) && (length (after_number text) == 0) then Some (value (digits_in text)) else None

-- a number or a count is within its limit
unfoldable pub within : Quantity → ℕ → ℕ → Result ℕ ReadError
within what limit n = if nat_lt limit n then Err (Limit what) else Ok n

-- a number that has to be well formed
abbrev pub formed : Field → List ℕ → Option ℕ → Result ℕ ReadError
formed what of None = Err (BadNumber what of)
formed what of (Some n) = Ok n

-- a number within a limit
unfoldable pub number : Field → List ℕ → Quantity → ℕ → List ℕ → Result ℕ ReadError
number what of quantity limit text = do
  n ← formed what of (number_in text)
  within quantity limit n

-- a number that isn't 0
unfoldable pub positive : Field → List ℕ → Quantity → ℕ → List ℕ → Result ℕ ReadError
positive what of quantity limit text = do
  n ← number what of quantity limit text
  if n == 0 then Err (BadNumber what of) else Ok n

-- ---- lists

-- so many times a number, where that isn't none
abbrev pub run : Option ℕ → Option ℕ → Option Item
run None value = None
run (Some count) None = None
run (Some count) (Some value) = if count == 0 then None else Some (record { count = count; value = value })

-- the item of a text: a number, or so many times one, with a star between
unfoldable pub item_in : List ℕ → Option Item
item_in text =
    if nat_lt (position_or_len (λ b. b == 42) text) (length text)
    then run (number_in (before_first (λ b. b == 42) text)) (number_in (after_first (λ b. b == 42) text))
    else run (Some 1) (number_in text)

-- an item before some others
abbrev pub with_item : Option Item → Option (List Item) → Option (List Item)
with_item None items = None
with_item (Some i) items = option_map (λ is. i ∷ is) items

-- the items of these texts, if each has one
abbrev pub items_of : List (List ℕ) → Option (List Item)
items_of [] = Some []
items_of (text ∷ texts) = with_item (item_in text) (items_of texts)

-- the items of a list, with commas between
unfoldable pub items_in : List ℕ → Option (List Item)
items_in text = items_of (slice_split (λ b. b == 44) text)

-- items that have to be well formed
abbrev pub formed_items : Field → List ℕ → Option (List Item) → Result (List Item) ReadError
formed_items what of None = Err (BadNumber what of)
formed_items what of (Some items) = Ok items

-- no number is above the limit
abbrev pub all_within : Quantity → ℕ → List Item → Result (List Item) ReadError
all_within quantity limit items = if list_any (λ i. nat_lt limit i.value) items then Err (Limit quantity) else Ok items

-- none is below the least one
abbrev pub none_below : ℕ → Field → List ℕ → List Item → Result (List Item) ReadError
none_below least what of items = if list_any (λ i. nat_lt i.value least) items then Err (BadNumber what of) else Ok items

-- how many numbers the items stand for
abbrev pub count_in : List Item → ℕ
count_in [] = 0
count_in (i ∷ is) = i.count + count_in is

-- the numbers of the items
abbrev pub numbers_of : List Item → List ℕ
numbers_of [] = []
numbers_of (i ∷ is) = replicate i.count i.value ++ numbers_of is

-- not all of the numbers are 0
abbrev pub some_number : Field → List ℕ → List ℕ → Result (List ℕ) ReadError
some_number what of numbers = if list_all (λ n. n == 0) numbers then Err (BadNumber what of) else Ok numbers

-- the numbers of items, within their limits
unfoldable pub tested_items : ℕ → Field → List ℕ → Quantity → ℕ → List Item → Result (List ℕ) ReadError
tested_items least what of q limit items = do
  within_limit ← all_within q limit items
  from_least ← none_below least what of items
  count ← within quantity.Phases PHASES (count_in items)
  some_number what of (numbers_of items)

-- a list of numbers from a least one up to a limit, at most one for each phase that an actor may have, and not all 0
unfoldable pub number_list : ℕ → Field → List ℕ → Quantity → ℕ → List ℕ → Result (List ℕ) ReadError
number_list least what of quantity limit text = do
  items ← formed_items what of (items_in text)
  tested_items least what of quantity limit items

-- numbers by phase: one that isn't 0 in a synchronous graph, a list in a cyclo-static one
unfoldable pub numbers : Kind → ℕ → Field → List ℕ → Quantity → ℕ → List ℕ → Result (List ℕ) ReadError
numbers Sdf least what of quantity limit text = do
  n ← positive what of quantity limit text
  Ok (n ∷ [])
numbers Csdf least what of quantity limit text = number_list least what of quantity limit text
