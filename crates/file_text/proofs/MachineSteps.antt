-- Which steps find too deep an element or another encoding, and where the machine stands behind a `<`.
use Rattle.std.proofs.Common.{◌≡◌, ℕ, suc, inl, inr, refl, Bool, true, false, cond, eqb, ltb, List, [], ◌∷◌, length}
use Rattle.std.proofs.lemmas.Bool.{cases_Bool, eqb-true}
use Rattle.file_text.specs.declared.tree.Attribute.{Attribute}
use Rattle.file_text.specs.declared.class.Class.{Class}
use Rattle.file_text.specs.declared.class.Class.TheVariants.{Wide, White, Control, Letter, Digit, Hyphen, Less, Greater, Slash, Bang, Question, Equals, Quote, Ampersand}
use Rattle.file_text.specs.declared.mode.Mark.{Mark}
use Rattle.file_text.specs.declared.mode.Mark.TheVariants as mark_read
use Rattle.file_text.specs.declared.mode.Declaring.{Declaring}
use Rattle.file_text.specs.declared.mode.Declaring.TheVariants as declaring
use Rattle.file_text.specs.declared.mode.Comment.{Comment}
use Rattle.file_text.specs.declared.mode.Comment.TheVariants as part
use Rattle.file_text.specs.declared.reference.Reference.{Reference}
use Rattle.file_text.specs.declared.reference.Reference.TheVariants as reference
use Rattle.file_text.specs.declared.reference.Referred.{Referred}
use Rattle.file_text.specs.declared.reference.Referred.TheVariants.{More, Done, Leaves}
use Rattle.file_text.specs.Grammar.{is_name_start}
use Rattle.file_text.specs.inside.AttributeNames.{has_name}
use Rattle.file_text.specs.inside.Machine.{class_of, Around, prolog, within, epilog, Holder, declaration, tag, Shape, at_start, in_mark, at_first, in_declaring, at_between, at_markup, in_comment, in_name, at_gap, in_attribute, at_named, at_equals, in_value, in_value_reference, at_valued, at_slash, at_ending, in_text_reference, in_closing, Step, goes, leaves, too_deep, other_encoding, start_step, mark_step, first_step, declaring_step, between_step, open_step, close_step, markup_step, comment_step, end_step, name_step, gap_step, valued_step, attribute_step, named_step, equals_step, declares_other, value_end, value_step, referred, value_reference_step, text_reference_step, slash_step, ending_step, leave_step, match_step, closing_step, table}
use Rattle.file_text.proofs.ClassesMatchGrammar.{Known, known}

-- a step that finds neither
abbrev Plain : Step → Type 0
Plain too_deep = ⊥
Plain (other_encoding a x) = ⊥
Plain s = Unit {0}

-- where another encoding is found, and where too deep an element
abbrev pub IsOther : Shape → ℕ → Type 0
IsOther (in_value declaration xs n q v) b = (b ≡ q) × (declares_other n v ≡ true)
IsOther x b = ⊥

abbrev pub IsDeep : Around → Shape → ℕ → Type 0
IsDeep (within o os) at_markup b = is_name_start b ≡ true
IsDeep a x b = ⊥

abbrev pub Shows : Around → Shape → ℕ → Step → Type 0
Shows a x b too_deep = IsDeep a x b
Shows a x b (other_encoding c y) = IsOther x b
Shows a x b s = Unit {0}

weaken : (a : Around) (x : Shape) (b : ℕ) (s : Step) → Plain s → Shows a x b s
weaken a x b (goes c y) plain = tt
weaken a x b leaves plain = tt
weaken a x b too_deep plain = absurd plain
weaken a x b (other_encoding c y) plain = absurd plain

pub either : (P : Step → Type 0) (t : Bool) (s u : Step) → P s → P u → P (cond t s u)
either P true s u p q = p
either P false s u p q = q

plain_start : (a : Around) (c : Class) (b : ℕ) → Plain (start_step a c b)
plain_start a Wide b = either Plain (eqb b 0xEF) (goes a (in_mark mark_read.First)) leaves tt tt
plain_start a White b = tt
plain_start a Less b = tt
plain_start a c b = tt

plain_mark : (a : Around) (m : Mark) (c : Class) (b : ℕ) → Plain (mark_step a m c b)
plain_mark a mark_read.First Wide b = either Plain (eqb b 0xBB) (goes a (in_mark mark_read.Second)) leaves tt tt
plain_mark a mark_read.Second Wide b = either Plain (eqb b 0xBF) (goes a (in_mark mark_read.Whole)) leaves tt tt
plain_mark a mark_read.Whole White b = tt
plain_mark a mark_read.Whole Less b = tt
plain_mark a m c b = tt

plain_first : (a : Around) (c : Class) (b : ℕ) → Plain (first_step a c b)
plain_first a Question b = tt
plain_first a Bang b = tt
plain_first a Letter b = tt
plain_first a Wide b = tt
plain_first a c b = tt

plain_declaring : (a : Around) (d : Declaring) (c : Class) (b : ℕ) → Plain (declaring_step a d c b)
plain_declaring a declaring.Question Letter b = either Plain (eqb b 120) (goes a (in_declaring declaring.X)) leaves tt tt
plain_declaring a declaring.X Letter b = either Plain (eqb b 109) (goes a (in_declaring declaring.Xm)) leaves tt tt
plain_declaring a declaring.Xm Letter b = either Plain (eqb b 108) (goes a (in_declaring declaring.Xml)) leaves tt tt
plain_declaring a declaring.Xml White b = tt
plain_declaring a d c b = tt

plain_between : (a : Around) (c : Class) → Plain (between_step a c)
plain_between a White = tt
plain_between a Less = tt
plain_between (within o os) Control = tt
plain_between (within o os) Ampersand = tt
plain_between (within o os) c = tt
plain_between a c = tt

shows_open : (a : Around) (b : ℕ) → is_name_start b ≡ true → Shows a at_markup b (open_step a b)
shows_open prolog b start = tt
shows_open (within o os) b start = either (Shows (within o os) at_markup b) (ltb (suc (length os)) 32) (goes (within o os) (in_name (b ∷ []))) too_deep tt start
shows_open (epilog e) b start = tt

shows_close : (a : Around) (b : ℕ) → Shows a at_markup b (close_step a)
shows_close prolog b = tt
shows_close (within o os) b = tt
shows_close (epilog e) b = tt

shows_markup : (a : Around) (c : Class) (b : ℕ) → Known c b → Shows a at_markup b (markup_step a c b)
shows_markup a Bang b k = tt
shows_markup a Slash b k = shows_close a b
shows_markup a Letter b k = shows_open a b k.begins
shows_markup a Wide b k = shows_open a b k.begins
shows_markup a c b k = tt

plain_comment : (a : Around) (k : Comment) (c : Class) → Plain (comment_step a k c)
plain_comment a part.Bang Hyphen = tt
plain_comment a part.Bang c = tt
plain_comment a part.Dash Hyphen = tt
plain_comment a part.Dash c = tt
plain_comment a part.Body Hyphen = tt
plain_comment a part.Hyphen Hyphen = tt
plain_comment a part.Hyphens Hyphen = tt
plain_comment a part.Hyphens Greater = tt
plain_comment a k Control = tt
plain_comment a k c = tt

plain_end : (a : Around) (h : Holder) (xs : List Attribute) (c : Class) → Plain (end_step a h xs c)
plain_end a (tag n) xs Slash = tt
plain_end a (tag n) xs Greater = tt
plain_end a declaration (x ∷ xs) Question = tt
plain_end a h xs c = tt

plain_name : (a : Around) (n : List ℕ) (c : Class) (b : ℕ) → Plain (name_step a n c b)
plain_name a n Letter b = tt
plain_name a n Digit b = tt
plain_name a n Hyphen b = tt
plain_name a n Wide b = tt
plain_name a n White b = tt
plain_name a n c b = plain_end a (tag n) [] c

plain_gap : (a : Around) (h : Holder) (xs : List Attribute) (c : Class) (b : ℕ) → Plain (gap_step a h xs c b)
plain_gap a h xs White b = tt
plain_gap a h xs Letter b = tt
plain_gap a h xs Wide b = tt
plain_gap a h xs c b = plain_end a h xs c

plain_valued : (a : Around) (h : Holder) (xs : List Attribute) (c : Class) → Plain (valued_step a h xs c)
plain_valued a h xs White = tt
plain_valued a h xs c = plain_end a h xs c

plain_attribute : (a : Around) (h : Holder) (xs : List Attribute) (n : List ℕ) (c : Class) (b : ℕ) → Plain (attribute_step a h xs n c b)
plain_attribute a h xs n Letter b = tt
plain_attribute a h xs n Digit b = tt
plain_attribute a h xs n Hyphen b = tt
plain_attribute a h xs n Wide b = tt
plain_attribute a h xs n White b = either Plain (has_name n xs) leaves (goes a (at_named h xs n)) tt tt
plain_attribute a h xs n Equals b = either Plain (has_name n xs) leaves (goes a (at_equals h xs n)) tt tt
plain_attribute a h xs n c b = tt

plain_named : (a : Around) (h : Holder) (xs : List Attribute) (n : List ℕ) (c : Class) → Plain (named_step a h xs n c)
plain_named a h xs n White = tt
plain_named a h xs n Equals = tt
plain_named a h xs n c = tt

plain_equals : (a : Around) (h : Holder) (xs : List Attribute) (n : List ℕ) (c : Class) (b : ℕ) → Plain (equals_step a h xs n c b)
plain_equals a h xs n White b = tt
plain_equals a h xs n Quote b = tt
plain_equals a h xs n c b = tt

shows_value_end : (a : Around) (h : Holder) (xs : List Attribute) (n : List ℕ) (q : ℕ) (v : List ℕ) (b : ℕ) → b ≡ q → Shows a (in_value h xs n q v) b (value_end a h xs n v)
shows_value_end a (tag m) xs n q v b same = tt
shows_value_end a declaration xs n q v b same = elim (cases_Bool (declares_other n v)) [
  | inl other ↦ rw other (same, other)
  | inr fits ↦ rw fits tt
]

shows_value : (a : Around) (h : Holder) (xs : List Attribute) (n : List ℕ) (q : ℕ) (v : List ℕ) (c : Class) (b : ℕ) → Shows a (in_value h xs n q v) b (value_step a h xs n q v c b)
shows_value a h xs n q v Quote b = elim (cases_Bool (eqb b q)) [
  | inl same ↦ rw same (shows_value_end a h xs n q v b (eqb-true b q same))
  | inr other ↦ rw other tt
]
shows_value a h xs n q v Less b = tt
shows_value a h xs n q v Control b = tt
shows_value a h xs n q v Ampersand b = tt
shows_value a h xs n q v c b = tt

plain_value_reference : (a : Around) (h : Holder) (xs : List Attribute) (n : List ℕ) (q : ℕ) (v : List ℕ) (r : Referred) → Plain (value_reference_step a h xs n q v r)
plain_value_reference a h xs n q v (More r) = tt
plain_value_reference a h xs n q v (Done c) = tt
plain_value_reference a h xs n q v Leaves = tt

plain_text_reference : (a : Around) (r : Referred) → Plain (text_reference_step a r)
plain_text_reference a (More r) = tt
plain_text_reference a (Done c) = tt
plain_text_reference a Leaves = tt

plain_slash : (a : Around) (n : List ℕ) (xs : List Attribute) (c : Class) → Plain (slash_step a n xs c)
plain_slash a n xs Greater = tt
plain_slash a n xs c = tt

plain_ending : (a : Around) (c : Class) → Plain (ending_step a c)
plain_ending a Greater = tt
plain_ending a c = tt

plain_leave : (a : Around) → Plain (leave_step a)
plain_leave prolog = tt
plain_leave (within o os) = tt
plain_leave (epilog e) = tt

plain_match : (a : Around) (x : ℕ) (left : List ℕ) (c : Class) (b : ℕ) → Plain (match_step a x left c b)
plain_match a x left Letter b = either Plain (eqb x b) (goes a (in_closing left)) leaves tt tt
plain_match a x left Digit b = either Plain (eqb x b) (goes a (in_closing left)) leaves tt tt
plain_match a x left Hyphen b = either Plain (eqb x b) (goes a (in_closing left)) leaves tt tt
plain_match a x left Wide b = either Plain (eqb x b) (goes a (in_closing left)) leaves tt tt
plain_match a x left c b = tt

plain_closing : (a : Around) (left : List ℕ) (c : Class) (b : ℕ) → Plain (closing_step a left c b)
plain_closing a [] White b = tt
plain_closing a [] Greater b = plain_leave a
plain_closing a [] c b = tt
plain_closing a (x ∷ left) c b = plain_match a x left c b

-- what a step shows
pub shows : (a : Around) (x : Shape) (b : ℕ) → Shows a x b (table a x (class_of b) b)
unfolding table
shows a at_start b = weaken a at_start b (start_step a (class_of b) b) (plain_start a (class_of b) b)
shows a (in_mark m) b = weaken a (in_mark m) b (mark_step a m (class_of b) b) (plain_mark a m (class_of b) b)
shows a at_first b = weaken a at_first b (first_step a (class_of b) b) (plain_first a (class_of b) b)
shows a (in_declaring d) b = weaken a (in_declaring d) b (declaring_step a d (class_of b) b) (plain_declaring a d (class_of b) b)
shows a at_between b = weaken a at_between b (between_step a (class_of b)) (plain_between a (class_of b))
shows a at_markup b = shows_markup a (class_of b) b (known b)
shows a (in_comment k) b = weaken a (in_comment k) b (comment_step a k (class_of b)) (plain_comment a k (class_of b))
shows a (in_name n) b = weaken a (in_name n) b (name_step a n (class_of b) b) (plain_name a n (class_of b) b)
shows a (at_gap h xs) b = weaken a (at_gap h xs) b (gap_step a h xs (class_of b) b) (plain_gap a h xs (class_of b) b)
shows a (in_attribute h xs n) b = weaken a (in_attribute h xs n) b (attribute_step a h xs n (class_of b) b) (plain_attribute a h xs n (class_of b) b)
shows a (at_named h xs n) b = weaken a (at_named h xs n) b (named_step a h xs n (class_of b)) (plain_named a h xs n (class_of b))
shows a (at_equals h xs n) b = weaken a (at_equals h xs n) b (equals_step a h xs n (class_of b) b) (plain_equals a h xs n (class_of b) b)
shows a (in_value h xs n q v) b = shows_value a h xs n q v (class_of b) b
shows a (in_value_reference h xs n q v r) b =
    weaken a (in_value_reference h xs n q v r) b (value_reference_step a h xs n q v (referred r b)) (plain_value_reference a h xs n q v (referred r b))
shows a (at_valued h xs) b = weaken a (at_valued h xs) b (valued_step a h xs (class_of b)) (plain_valued a h xs (class_of b))
shows a (at_slash n xs) b = weaken a (at_slash n xs) b (slash_step a n xs (class_of b)) (plain_slash a n xs (class_of b))
shows a at_ending b = weaken a at_ending b (ending_step a (class_of b)) (plain_ending a (class_of b))
shows a (in_text_reference r) b = weaken a (in_text_reference r) b (text_reference_step a (referred r b)) (plain_text_reference a (referred r b))
shows a (in_closing left) b = weaken a (in_closing left) b (closing_step a left (class_of b) b) (plain_closing a left (class_of b) b)

-- where the machine may stand behind a `<`
abbrev pub IsBehindLess : Shape → Type 0
IsBehindLess at_first = Unit {0}
IsBehindLess at_markup = Unit {0}
IsBehindLess (in_comment part.Body) = Unit {0}
IsBehindLess x = ⊥

abbrev pub LeadsBehind : Step → Type 0
LeadsBehind (goes a x) = IsBehindLess x
LeadsBehind leaves = Unit {0}
LeadsBehind too_deep = Unit {0}
LeadsBehind (other_encoding a x) = ⊥

less_end : (a : Around) (h : Holder) (xs : List Attribute) → LeadsBehind (end_step a h xs Less)
less_end a (tag n) xs = tt
less_end a declaration [] = tt
less_end a declaration (x ∷ xs) = tt

less_mark : (a : Around) (m : Mark) → LeadsBehind (mark_step a m Less 60)
less_mark a mark_read.First = tt
less_mark a mark_read.Second = tt
less_mark a mark_read.Whole = tt

less_declaring : (a : Around) (d : Declaring) → LeadsBehind (declaring_step a d Less 60)
less_declaring a declaring.Question = tt
less_declaring a declaring.X = tt
less_declaring a declaring.Xm = tt
less_declaring a declaring.Xml = tt

less_comment : (a : Around) (k : Comment) → LeadsBehind (comment_step a k Less)
less_comment a part.Bang = tt
less_comment a part.Dash = tt
less_comment a part.Body = tt
less_comment a part.Hyphen = tt
less_comment a part.Hyphens = tt

less_refers : (r : Reference) → referred r 60 ≡ Leaves
less_refers reference.Ampersand = refl
less_refers reference.L = refl
less_refers reference.Lt = refl
less_refers reference.G = refl
less_refers reference.Gt = refl
less_refers reference.A = refl
less_refers reference.Am = refl
less_refers reference.Amp = refl
less_refers reference.Ap = refl
less_refers reference.Apo = refl
less_refers reference.Apos = refl
less_refers reference.Q = refl
less_refers reference.Qu = refl
less_refers reference.Quo = refl
less_refers reference.Quot = refl

pub behind_less : (a : Around) (x : Shape) → LeadsBehind (table a x Less 60)
unfolding table
behind_less a at_start = tt
behind_less a (in_mark m) = less_mark a m
behind_less a at_first = tt
behind_less a (in_declaring d) = less_declaring a d
behind_less a at_between = tt
behind_less a at_markup = tt
behind_less a (in_comment k) = less_comment a k
behind_less a (in_name n) = less_end a (tag n) []
behind_less a (at_gap h xs) = less_end a h xs
behind_less a (in_attribute h xs n) = tt
behind_less a (at_named h xs n) = tt
behind_less a (at_equals h xs n) = tt
behind_less a (in_value h xs n q v) = tt
behind_less a (in_value_reference h xs n q v r) = rw (less_refers r) tt
behind_less a (at_valued h xs) = less_end a h xs
behind_less a (at_slash n xs) = tt
behind_less a at_ending = tt
behind_less a (in_text_reference r) = rw (less_refers r) tt
behind_less a (in_closing []) = tt
behind_less a (in_closing (x ∷ left)) = tt
