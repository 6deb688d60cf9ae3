-- After each step of the machine characters are cut only in a text that grows.
use Rattle.std.proofs.Common.{◌≡◌, ℕ, suc, ◌<◌, inl, inr, refl, ◌∙◌, ap, subst, Bool, true, false, cond, eqb, ltb, List, [], ◌∷◌, ◌++◌, length, Option, Some, None, arith}
use Rattle.std.proofs.lemmas.Bool.{cases_Bool, eqb-true}
use Rattle.std.proofs.lemmas.Bool.Decides.{nat_tests}
use Rattle.file_text.specs.declared.tree.Attribute.{Attribute}
use Rattle.file_text.specs.declared.class.Class.{Class}
use Rattle.file_text.specs.declared.class.Class.TheVariants.{Wide, White, Control, Letter, Digit, Hyphen, Less, Greater, Slash, Bang, Question, Equals, Quote, Ampersand, Other}
use Rattle.file_text.specs.declared.mode.Mark.{Mark}
use Rattle.file_text.specs.declared.mode.Mark.TheVariants as mark_read
use Rattle.file_text.specs.declared.mode.Declaring.{Declaring}
use Rattle.file_text.specs.declared.mode.Declaring.TheVariants as declaring
use Rattle.file_text.specs.declared.mode.Comment.{Comment}
use Rattle.file_text.specs.declared.mode.Comment.TheVariants as part
use Rattle.file_text.specs.declared.due.Due.{Due}
use Rattle.file_text.specs.declared.due.Due.TheVariants.{Nothing, Byte}
use Rattle.file_text.specs.inside.Utf8.{due_after, due_along}
use Rattle.file_text.specs.inside.AttributeNames.{has_name}
use Rattle.file_text.specs.inside.Machine.{class_of, Around, prolog, within, epilog, open_of, Holder, declaration, tag, at_start, in_mark, at_first, in_declaring, at_markup, at_named, at_equals, at_valued, Step, goes, leaves, other_encoding, start_step, mark_step, first_step, declaring_step, between_step, close_step, open_step, markup_step, comment_step, end_step, name_step, gap_step, valued_step, if_new, attribute_step, named_step, equals_step, value_end, declares_other, value_step, Spot, follow, IsDue, AreWhole, IsWholeHolder, IsTidyBetween, IsTidyShape, IsProper}
use Rattle.file_text.proofs.ClassesMatchGrammar.{Says, says}
use Rattle.file_text.proofs.BytesSpellUtf8.{due_along-append}

-- one more byte of a text
pub due_more : (t : List ℕ) (d e : Due) (b : ℕ) → IsDue t d → due_after d b ≡ Some e → IsDue (t ++ b ∷ []) e
due_more t d e b is after = due_along-append (Some Nothing) t (b ∷ []) ∙ ap (λ o. due_along o (b ∷ [])) is ∙ ap (λ o. due_along o []) after

proper_after : (d e : Due) (b : ℕ) → due_after d b ≡ Some e → IsProper e
proper_after Nothing Nothing b after = tt
proper_after Nothing (Byte low high more) b after = grind (arith, nat_tests)
proper_after (Byte low high more) Nothing b after = tt
proper_after (Byte low high more) (Byte l h m) b after = grind (arith, nat_tests)

-- an ASCII byte cuts no character
pub ascii_after : (d e : Due) (b : ℕ) → b < 128 → IsProper d → due_after d b ≡ Some e → (d ≡ Nothing) × (e ≡ Nothing)
ascii_after Nothing e b low proper after = (refl, grind (arith, nat_tests))
ascii_after (Byte l h m) e b low proper after = absurd (grind (arith, nat_tests))

-- a class of ASCII bytes
abbrev pub IsAsciiClass : Class → Type 0
IsAsciiClass Wide = ⊥
IsAsciiClass c = Unit {0}

-- what is due before and after a byte of a class
pub record Dues (d e : Due) (c : Class) (b : ℕ) : Type 0 where
  pub proper : IsProper e
  pub after : due_after d b ≡ Some e
  pub ascii : IsAsciiClass c → (d ≡ Nothing) × (e ≡ Nothing)

ascii_byte : (c : Class) (b : ℕ) → Says c b → IsAsciiClass c → b < 128
ascii_byte Wide b code is = absurd is
ascii_byte White b code is = code
ascii_byte Control b code is = code
ascii_byte Letter b code is = code
ascii_byte Digit b code is = code
ascii_byte Other b code is = code
ascii_byte Quote b (inl code) is = omega arith
ascii_byte Quote b (inr code) is = omega arith
ascii_byte Hyphen b code is = omega arith
ascii_byte Less b code is = omega arith
ascii_byte Greater b code is = omega arith
ascii_byte Slash b code is = omega arith
ascii_byte Bang b code is = omega arith
ascii_byte Question b code is = omega arith
ascii_byte Equals b code is = omega arith
ascii_byte Ampersand b code is = omega arith

pub dues : (d e : Due) (b : ℕ) → IsProper d → due_after d b ≡ Some e → Dues d e (class_of b) b
dues d e b proper after = record {
  proper = proper_after d e b after;
  after = after;
  ascii = λ is. ascii_after d e b (ascii_byte (class_of b) b (says b (class_of b) refl) is) proper after;
}

-- where a step leads it is tidy
abbrev pub TidyAt : Due → Option Spot → Type 0
TidyAt e None = Unit {0}
TidyAt e (Some s) = AreWhole (open_of s.0) × IsTidyShape e s.0 s.1

abbrev pub TidyAfter : Bool → Due → Step → Type 0
TidyAfter strict e s = TidyAt e (follow strict s)

pub between_nothing : (e : Due) (a : Around) → e ≡ Nothing → IsTidyBetween e a
between_nothing e prolog is = is
between_nothing e (within o os) is = tt
between_nothing e (epilog x) is = is

pub when_tidy : (P : Step → Type 0) (b k : ℕ) (s u : Step) → (b ≡ k → P s) → P u → P (cond (eqb b k) s u)
when_tidy P b k s u p q = elim (cases_Bool (eqb b k)) [ inl e ↦ rw e (p (eqb-true b k e)) | inr e ↦ rw e q ]

-- from one literal byte to what is due
after_code : (d : Due) (e f : Due) (b k : ℕ) (g : Due) → d ≡ f → due_after d b ≡ Some e → b ≡ k → due_after f k ≡ Some g → e ≡ g
after_code d e f b k g same after code is = let s : due_after d b ≡ due_after f k = rw (same, code) refl in cc

pub tidy_start : (strict : Bool) (d e : Due) (a : Around) (c : Class) (b : ℕ) → Dues d e c b → AreWhole (open_of a) → IsTidyShape d a at_start → TidyAfter strict e (start_step a c b)
tidy_start strict d e a White b k whole shape = (whole, between_nothing e a (k.ascii tt).1)
tidy_start strict d e a Less b k whole shape = (whole, (k.ascii tt).1)
tidy_start strict d e a Wide b k whole shape =
    when_tidy (λ s. TidyAfter strict e s) b 0xEF (goes a (in_mark mark_read.First)) leaves
    (λ code. (whole, after_code d e Nothing b 0xEF (Byte 0x80 0xBF 1) shape k.after code refl)) tt
tidy_start strict d e a c b k whole shape = tt

pub tidy_mark : (strict : Bool) (d e : Due) (a : Around) (m : Mark) (c : Class) (b : ℕ) → Dues d e c b → AreWhole (open_of a) → IsTidyShape d a (in_mark m) → TidyAfter strict e (mark_step a m c b)
tidy_mark strict d e a mark_read.First Wide b k whole shape =
    when_tidy (λ s. TidyAfter strict e s) b 0xBB (goes a (in_mark mark_read.Second)) leaves
    (λ code. (whole, after_code d e (Byte 0x80 0xBF 1) b 0xBB (Byte 0x80 0xBF 0) shape k.after code refl)) tt
tidy_mark strict d e a mark_read.Second Wide b k whole shape =
    when_tidy (λ s. TidyAfter strict e s) b 0xBF (goes a (in_mark mark_read.Whole)) leaves
    (λ code. (whole, after_code d e (Byte 0x80 0xBF 0) b 0xBF Nothing shape k.after code refl)) tt
tidy_mark strict d e a mark_read.Whole White b k whole shape = (whole, between_nothing e a (k.ascii tt).1)
tidy_mark strict d e a mark_read.Whole Less b k whole shape = (whole, (k.ascii tt).1)
tidy_mark strict d e a m c b k whole shape = tt

-- a name begins with a byte
name_begins : (d e : Due) (b : ℕ) → d ≡ Nothing → due_after d b ≡ Some e → IsDue (b ∷ []) e
name_begins d e b none after = due_more [] Nothing e b refl (subst (λ (f : Due). due_after f b ≡ Some e) none after)

pub tidy_first : (strict : Bool) (d e : Due) (a : Around) (c : Class) (b : ℕ) → Dues d e c b → AreWhole (open_of a) → IsTidyShape d a at_first → TidyAfter strict e (first_step a c b)
tidy_first strict d e a Question b k whole shape = (whole, (k.ascii tt).1)
tidy_first strict d e a Bang b k whole shape = (whole, (k.ascii tt).1)
tidy_first strict d e a Letter b k whole shape = (whole, name_begins d e b shape k.after)
tidy_first strict d e a Wide b k whole shape = (whole, name_begins d e b shape k.after)
tidy_first strict d e a c b k whole shape = tt

pub tidy_declaring : (strict : Bool) (d e : Due) (a : Around) (m : Declaring) (c : Class) (b : ℕ) → Dues d e c b → AreWhole (open_of a) → TidyAfter strict e (declaring_step a m c b)
tidy_declaring strict d e a declaring.Question Letter b k whole =
    when_tidy (λ s. TidyAfter strict e s) b 120 (goes a (in_declaring declaring.X)) leaves (λ _. (whole, (k.ascii tt).1)) tt
tidy_declaring strict d e a declaring.X Letter b k whole =
    when_tidy (λ s. TidyAfter strict e s) b 109 (goes a (in_declaring declaring.Xm)) leaves (λ _. (whole, (k.ascii tt).1)) tt
tidy_declaring strict d e a declaring.Xm Letter b k whole =
    when_tidy (λ s. TidyAfter strict e s) b 108 (goes a (in_declaring declaring.Xml)) leaves (λ _. (whole, (k.ascii tt).1)) tt
tidy_declaring strict d e a declaring.Xml White b k whole = (whole, ((k.ascii tt).1, tt))
tidy_declaring strict d e a m c b k whole = tt

pub tidy_between : (strict : Bool) (d e : Due) (a : Around) (c : Class) (b : ℕ) → Dues d e c b → AreWhole (open_of a) → TidyAfter strict e (between_step a c)
tidy_between strict d e a White b k whole = (whole, between_nothing e a (k.ascii tt).1)
tidy_between strict d e a Less b k whole = (whole, (k.ascii tt).1)
tidy_between strict d e (within o os) Control b k whole = tt
tidy_between strict d e (within o os) Ampersand b k whole = (whole, (k.ascii tt).1)
tidy_between strict d e (within o os) c b k whole = (whole, tt)
tidy_between strict d e a c b k whole = tt

pub tidy_open : (strict : Bool) (d e : Due) (a : Around) (b : ℕ) → due_after d b ≡ Some e → AreWhole (open_of a) → d ≡ Nothing → TidyAfter strict e (open_step a b)
tidy_open strict d e prolog b after whole none = (whole, name_begins d e b none after)
tidy_open strict d e (within o os) b after whole none = elim (cases_Bool (ltb (suc (length os)) 32)) [
  | inl fits ↦ rw fits (whole, name_begins d e b none after)
  | inr full ↦ rw full tt
]
tidy_open strict d e (epilog x) b after whole none = tt

pub tidy_close : (strict : Bool) (e : Due) (a : Around) → e ≡ Nothing → AreWhole (open_of a) → TidyAfter strict e (close_step a)
tidy_close strict e prolog none whole = tt
tidy_close strict e (within o os) none whole = (whole, rw none whole.0)
tidy_close strict e (epilog x) none whole = tt

pub tidy_markup : (strict : Bool) (d e : Due) (a : Around) (c : Class) (b : ℕ) → Dues d e c b → AreWhole (open_of a) → IsTidyShape d a at_markup → TidyAfter strict e (markup_step a c b)
tidy_markup strict d e a Bang b k whole shape = (whole, (k.ascii tt).1)
tidy_markup strict d e a Slash b k whole shape = tidy_close strict e a (k.ascii tt).1 whole
tidy_markup strict d e a Letter b k whole shape = tidy_open strict d e a b k.after whole shape
tidy_markup strict d e a Wide b k whole shape = tidy_open strict d e a b k.after whole shape
tidy_markup strict d e a c b k whole shape = tt

pub tidy_comment : (strict : Bool) (d e : Due) (a : Around) (m : Comment) (c : Class) (b : ℕ) → Dues d e c b → AreWhole (open_of a) → TidyAfter strict e (comment_step a m c)
tidy_comment strict d e a part.Bang Hyphen b k whole = (whole, (k.ascii tt).1)
tidy_comment strict d e a part.Bang c b k whole = tt
tidy_comment strict d e a part.Dash Hyphen b k whole = (whole, tt)
tidy_comment strict d e a part.Dash c b k whole = tt
tidy_comment strict d e a part.Body Hyphen b k whole = (whole, (k.ascii tt).1)
tidy_comment strict d e a part.Hyphen Hyphen b k whole = (whole, (k.ascii tt).1)
tidy_comment strict d e a part.Hyphens Hyphen b k whole = (whole, (k.ascii tt).1)
tidy_comment strict d e a part.Hyphens Greater b k whole = (whole, between_nothing e a (k.ascii tt).1)
tidy_comment strict d e a m Control b k whole = tt
tidy_comment strict d e a m c b k whole = (whole, tt)

-- tags
pub tidy_end : (strict : Bool) (e : Due) (a : Around) (h : Holder) (xs : List Attribute) (c : Class) → (IsAsciiClass c → e ≡ Nothing) → AreWhole (open_of a) → (IsAsciiClass c → IsWholeHolder h)
    → TidyAfter strict e (end_step a h xs c)
tidy_end strict e a (tag n) xs Slash none whole holder = (whole, (none tt, holder tt))
tidy_end strict e a (tag n) xs Greater none whole holder = ((holder tt, whole), tt)
tidy_end strict e a declaration (x ∷ xs) Question none whole holder = (whole, none tt)
tidy_end strict e a h xs c none whole holder = tt

whole_now : (n : List ℕ) (d : Due) → IsDue n d → d ≡ Nothing → IsDue n Nothing
whole_now n d is none = subst (λ (f : Due). IsDue n f) none is

pub tidy_name : (strict : Bool) (d e : Due) (a : Around) (n : List ℕ) (c : Class) (b : ℕ) → Dues d e c b → AreWhole (open_of a) → IsDue n d → TidyAfter strict e (name_step a n c b)
tidy_name strict d e a n Letter b k whole shape = (whole, due_more n d e b shape k.after)
tidy_name strict d e a n Digit b k whole shape = (whole, due_more n d e b shape k.after)
tidy_name strict d e a n Hyphen b k whole shape = (whole, due_more n d e b shape k.after)
tidy_name strict d e a n Wide b k whole shape = (whole, due_more n d e b shape k.after)
tidy_name strict d e a n White b k whole shape = (whole, ((k.ascii tt).1, whole_now n d shape (k.ascii tt).0))
tidy_name strict d e a n c b k whole shape = tidy_end strict e a (tag n) [] c (λ is. (k.ascii is).1) whole (λ is. whole_now n d shape (k.ascii is).0)

attribute_begins : (h : Holder) (d e : Due) (b : ℕ) → (d ≡ Nothing) × IsWholeHolder h → due_after d b ≡ Some e → IsWholeHolder h × IsDue (b ∷ []) e
attribute_begins h d e b shape after = (shape.1, name_begins d e b shape.0 after)

pub tidy_gap : (strict : Bool) (d e : Due) (a : Around) (h : Holder) (xs : List Attribute) (c : Class) (b : ℕ) → Dues d e c b → AreWhole (open_of a) → (d ≡ Nothing) × IsWholeHolder h
    → TidyAfter strict e (gap_step a h xs c b)
tidy_gap strict d e a h xs White b k whole shape = (whole, ((k.ascii tt).1, shape.1))
tidy_gap strict d e a h xs Letter b k whole shape = (whole, attribute_begins h d e b shape k.after)
tidy_gap strict d e a h xs Wide b k whole shape = (whole, attribute_begins h d e b shape k.after)
tidy_gap strict d e a h xs c b k whole shape = tidy_end strict e a h xs c (λ is. (k.ascii is).1) whole (λ is. shape.1)

pub tidy_valued : (strict : Bool) (d e : Due) (a : Around) (h : Holder) (xs : List Attribute) (c : Class) (b : ℕ) → Dues d e c b → AreWhole (open_of a) → (d ≡ Nothing) × IsWholeHolder h
    → TidyAfter strict e (valued_step a h xs c)
tidy_valued strict d e a h xs White b k whole shape = (whole, ((k.ascii tt).1, shape.1))
tidy_valued strict d e a h xs c b k whole shape = tidy_end strict e a h xs c (λ is. (k.ascii is).1) whole (λ is. shape.1)

when_new : (P : Step → Type 0) (n : List ℕ) (xs : List Attribute) (s : Step) → P s → P leaves → P (if_new n xs s)
when_new P n xs s p q = elim (cases_Bool (has_name n xs)) [ inl e ↦ rw e q | inr e ↦ rw e p ]

pub tidy_attribute : (strict : Bool) (d e : Due) (a : Around) (h : Holder) (xs : List Attribute) (n : List ℕ) (c : Class) (b : ℕ) → Dues d e c b → AreWhole (open_of a) → IsWholeHolder h × IsDue n d
    → TidyAfter strict e (attribute_step a h xs n c b)
tidy_attribute strict d e a h xs n Letter b k whole shape = (whole, (shape.0, due_more n d e b shape.1 k.after))
tidy_attribute strict d e a h xs n Digit b k whole shape = (whole, (shape.0, due_more n d e b shape.1 k.after))
tidy_attribute strict d e a h xs n Hyphen b k whole shape = (whole, (shape.0, due_more n d e b shape.1 k.after))
tidy_attribute strict d e a h xs n Wide b k whole shape = (whole, (shape.0, due_more n d e b shape.1 k.after))
tidy_attribute strict d e a h xs n White b k whole shape =
    when_new (λ s. TidyAfter strict e s) n xs (goes a (at_named h xs n)) (whole, ((k.ascii tt).1, shape.0, whole_now n d shape.1 (k.ascii tt).0)) tt
tidy_attribute strict d e a h xs n Equals b k whole shape =
    when_new (λ s. TidyAfter strict e s) n xs (goes a (at_equals h xs n)) (whole, ((k.ascii tt).1, shape.0, whole_now n d shape.1 (k.ascii tt).0)) tt
tidy_attribute strict d e a h xs n c b k whole shape = tt

pub tidy_named : (strict : Bool) (d e : Due) (a : Around) (h : Holder) (xs : List Attribute) (n : List ℕ) (c : Class) (b : ℕ) → Dues d e c b → AreWhole (open_of a)
    → (d ≡ Nothing) × IsWholeHolder h × IsDue n Nothing → TidyAfter strict e (named_step a h xs n c)
tidy_named strict d e a h xs n White b k whole shape = (whole, ((k.ascii tt).1, shape.1, shape.2))
tidy_named strict d e a h xs n Equals b k whole shape = (whole, ((k.ascii tt).1, shape.1, shape.2))
tidy_named strict d e a h xs n c b k whole shape = tt

pub tidy_equals : (strict : Bool) (d e : Due) (a : Around) (h : Holder) (xs : List Attribute) (n : List ℕ) (c : Class) (b : ℕ) → Dues d e c b → AreWhole (open_of a)
    → (d ≡ Nothing) × IsWholeHolder h × IsDue n Nothing → TidyAfter strict e (equals_step a h xs n c b)
tidy_equals strict d e a h xs n White b k whole shape = (whole, ((k.ascii tt).1, shape.1, shape.2))
tidy_equals strict d e a h xs n Quote b k whole shape = (whole, (shape.1, shape.2, rw (k.ascii tt).1 refl))
tidy_equals strict d e a h xs n c b k whole shape = tt

pub tidy_other : (strict : Bool) (e : Due) (a : Around) (xs : List Attribute) (n v : List ℕ) → e ≡ Nothing → AreWhole (open_of a)
    → TidyAfter strict e (other_encoding a (at_valued declaration (xs ++ record { name = n; value = v } ∷ [])))
tidy_other true e a xs n v none whole = tt
tidy_other false e a xs n v none whole = (whole, (none, tt))

pub tidy_value_end : (strict : Bool) (e : Due) (a : Around) (h : Holder) (xs : List Attribute) (n v : List ℕ) → e ≡ Nothing → AreWhole (open_of a) → IsWholeHolder h → TidyAfter strict e (value_end a h xs n v)
tidy_value_end strict e a (tag m) xs n v none whole holder = (whole, (none, holder))
tidy_value_end strict e a declaration xs n v none whole holder = elim (cases_Bool (declares_other n v)) [
  | inl other ↦ rw other (tidy_other strict e a xs n v none whole)
  | inr fits ↦ rw fits (whole, (none, tt))
]

pub tidy_value : (strict : Bool) (d e : Due) (a : Around) (h : Holder) (xs : List Attribute) (n : List ℕ) (q : ℕ) (v : List ℕ) (c : Class) (b : ℕ) → Dues d e c b → AreWhole (open_of a)
    → IsWholeHolder h × IsDue n Nothing × IsDue v d → TidyAfter strict e (value_step a h xs n q v c b)
tidy_value strict d e a h xs n q v Quote b k whole shape = elim (cases_Bool (eqb b q)) [
  | inl same ↦ rw same (tidy_value_end strict e a h xs n v (k.ascii tt).1 whole shape.0)
  | inr other ↦ rw other (whole, (shape.0, shape.1, due_more v d e b shape.2 k.after))
]
tidy_value strict d e a h xs n q v Less b k whole shape = tt
tidy_value strict d e a h xs n q v Control b k whole shape = tt
tidy_value strict d e a h xs n q v Ampersand b k whole shape = (whole, ((k.ascii tt).1, shape.0, shape.1, whole_now v d shape.2 (k.ascii tt).0))
tidy_value strict d e a h xs n q v c b k whole shape = (whole, (shape.0, shape.1, due_more v d e b shape.2 k.after))
