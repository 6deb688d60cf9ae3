-- One more byte in a tag or a declaration: what the machine says has been read is still so.
use Rattle.std.proofs.Common.{◌≡◌, ◌≢◌, ℕ, suc, ◌≤◌, ◌⊎◌, inl, inr, refl, sym, ◌∙◌, ap, subst, Bool, true, false, not, ◌&&◌, ◌||◌, eqb, List, [], ◌∷◌, ◌++◌, append_assoc, append-nil, length, IsTrue, codes, bytes_eq, arith}
use Rattle.std.proofs.lemmas.Bool.{cases_Bool, eqb-true, eqb-false}
use Rattle.std.proofs.lemmas.Slice.Eq.{bytes_eq-Decides}
use Rattle.std.specs.Str.{str_to_ascii_lowercase}
use Rattle.sd_base.proofs.ByteTestsDecide.{bytes_same}
use Rattle.file_text.specs.declared.tree.Attribute.{Attribute}
use Rattle.file_text.specs.declared.class.Class.{Class}
use Rattle.file_text.specs.declared.class.Class.TheVariants.{Wide, White, Control, Letter, Digit, Hyphen, Less, Greater, Slash, Question, Equals, Quote, Ampersand}
use Rattle.file_text.specs.Node.{node, no_node}
use Rattle.file_text.specs.Grammar.{is_plain, is_name_byte, IsWhite, IsName, Entity, entity_text, entity_value, byte, entity, items_text, IsQuoted, AreAttributes, IsNew, AreDistinct, IsTag, IsElement}
use Rattle.file_text.specs.inside.AttributeNames.{has_name}
use Rattle.file_text.specs.inside.Machine.{Around, prolog, within, epilog, open_of, entered, ended, Holder, declaration, tag, in_name, at_gap, in_attribute, at_named, at_equals, in_value, at_valued, Step, goes, leaves, other_encoding, end_step, name_step, gap_step, valued_step, if_new, attribute_step, named_step, equals_step, declares_other, value_end, value_step}
use Rattle.file_text.proofs.ClassesMatchGrammar.{Known}
use Rattle.file_text.proofs.DistinctNamesStay.{each-append, name_is_new, distinct_one_more}
use Rattle.file_text.proofs.OverTags.{Allowed, AllowedIn}
use Rattle.file_text.proofs.OverElements.{HasRoom}
use Rattle.file_text.proofs.ReadSoFar.{IsOpen, Reached, IsHolder, Tagged, Valued, Has}
use Rattle.file_text.proofs.TextsTakeOneMore.{items_text-one, items_value-one, white_more, gap_one, gap_more, name_more, closes, attributes_more}
use Rattle.file_text.proofs.KeepsText.{After}

-- the attributes of a tag that has only its name so far
pub tagged_name : (strict : Bool) (a : Around) (n : List ℕ) (t : List ℕ) → IsHolder strict a (tag n) t → Tagged strict a (tag n) [] t
tagged_name strict a n t is = record {
  front = t;
  middle = [];
  is_front = is;
  are_attributes = refl;
  are_distinct = tt;
  allowed = tt;
  spelled = sym (append-nil t);
}

-- a start tag ends
opened_text : (n : List ℕ) (xs : List Attribute) (middle w : List ℕ) → IsName n → AreAttributes xs middle → AreDistinct xs → IsWhite w → IsTag n xs (60 ∷ (n ++ (middle ++ w)))
opened_text n xs middle w named are distinct white = record {
  middle = middle;
  gap = w;
  is_name = named;
  are_attributes = are;
  are_distinct = distinct;
  white = white;
  spelled = refl;
}

open_before : (strict : Bool) (a : Around) (t : List ℕ) → HasRoom a → Reached strict a t → IsOpen strict (open_of a) t
open_before strict prolog t room reached = reached
open_before strict (within o os) t room reached = reached
open_before strict (epilog e) t room reached = absurd room

some_room : (a : Around) → HasRoom a → suc (length (open_of a)) ≤ 32
some_room prolog room = omega arith
some_room (within o os) room = omega arith
some_room (epilog e) room = absurd room

enters : (strict : Bool) (a : Around) (n : List ℕ) (xs : List Attribute) (u w t : List ℕ) → Tagged strict a (tag n) xs u → IsWhite w → t ≡ u ++ w
    → Reached strict (entered a n xs) (t ++ 62 ∷ [])
enters strict a n xs u w t tagged white spelled =
    let (v, reached, room, named, front) = tagged.is_front in
    let fits = some_room a room in (
      v,
      (60 ∷ (n ++ (tagged.middle ++ w))) ++ (62 ∷ []),
      open_before strict a v room reached,
      (60 ∷ (n ++ (tagged.middle ++ w)), [], opened_text n xs tagged.middle w named tagged.are_attributes tagged.are_distinct white, ([], tt, refl), refl),
      rw (spelled, tagged.spelled, front) (simp append_assoc),
      omega arith,
    )

-- an empty element ends
pub empties : (strict : Bool) (a : Around) (n : List ℕ) (xs : List Attribute) (u w t : List ℕ) → Tagged strict a (tag n) xs u → IsWhite w → t ≡ u ++ (w ++ codes "/")
    → Reached strict (ended (open_of a) (node n xs no_node)) (t ++ 62 ∷ [])
empties strict a n xs u w t tagged white spelled =
    let (v, reached, room, named, front) = tagged.is_front in
    let fits = some_room a room in
    let element : IsElement (node n xs no_node) ((60 ∷ (n ++ (tagged.middle ++ w))) ++ codes "/>") =
    (60 ∷ (n ++ (tagged.middle ++ w)), codes "/>", opened_text n xs tagged.middle w named tagged.are_attributes tagged.are_distinct white, inl (refl, refl), refl) in
    subst (λ (s : List ℕ). Reached strict (ended (open_of a) (node n xs no_node)) s) (sym (rw (spelled, tagged.spelled, front) (simp append_assoc)))
    (closes strict (open_of a) (node n xs no_node) v ((60 ∷ (n ++ (tagged.middle ++ w))) ++ codes "/>") (open_before strict a v room reached) element (omega arith))

-- behind the attributes
keeps_end : (strict : Bool) (a : Around) (h : Holder) (xs : List Attribute) (u w t : List ℕ) (c : Class) (b : ℕ) → Known c b → Tagged strict a h xs u → IsWhite w → t ≡ u ++ w
    → After strict (end_step a h xs c) (t ++ b ∷ [])
keeps_end strict a (tag n) xs u w t Slash b k tagged white spelled = (u, w, tagged, white, rw (spelled, k.code) (simp append_assoc))
keeps_end strict a (tag n) xs u w t Greater b k tagged white spelled = rw k.code (enters strict a n xs u w t tagged white spelled)
keeps_end strict a declaration (x ∷ xs) u w t Question b k tagged white spelled =
    (x ∷ xs, (u, w, tagged, (λ e. cc), white, rw (spelled, k.code) (simp append_assoc)))
keeps_end strict a h xs u w t c b k tagged white spelled = tt

name_grows : (strict : Bool) (a : Around) (n t : List ℕ) (b : ℕ) → IsTrue (is_name_byte b) → Has strict a (in_name n) t → Has strict a (in_name (n ++ b ∷ [])) (t ++ b ∷ [])
name_grows strict a n t b is (u, reached, room, named, spelled) = (u, reached, room, name_more n b named is, rw spelled (simp append_assoc))

pub keeps_name : (strict : Bool) (a : Around) (n t : List ℕ) (c : Class) (b : ℕ) → Known c b → Has strict a (in_name n) t → After strict (name_step a n c b) (t ++ b ∷ [])
keeps_name strict a n t Letter b k has = name_grows strict a n t b k.named has
keeps_name strict a n t Digit b k has = name_grows strict a n t b k.named has
keeps_name strict a n t Hyphen b k has = name_grows strict a n t b k.named has
keeps_name strict a n t Wide b k has = name_grows strict a n t b k.named has
keeps_name strict a n t White b k has = (t, b ∷ [], tagged_name strict a n t has, gap_one b k.white, refl)
keeps_name strict a n t c b k has = keeps_end strict a (tag n) [] t [] t c b k (tagged_name strict a n t has) tt (sym (append-nil t))

pub keeps_gap : (strict : Bool) (a : Around) (h : Holder) (xs : List Attribute) (t : List ℕ) (c : Class) (b : ℕ) → Known c b → Has strict a (at_gap h xs) t → After strict (gap_step a h xs c b) (t ++ b ∷ [])
keeps_gap strict a h xs t White b k (u, w, tagged, gap, spelled) = (u, w ++ b ∷ [], tagged, gap_more w b gap.0 k.white, rw spelled (simp append_assoc))
keeps_gap strict a h xs t Letter b k (u, w, tagged, gap, spelled) = (u, w, tagged, gap, (k.begins, tt), rw spelled (simp append_assoc))
keeps_gap strict a h xs t Wide b k (u, w, tagged, gap, spelled) = (u, w, tagged, gap, (k.begins, tt), rw spelled (simp append_assoc))
keeps_gap strict a h xs t c b k (u, w, tagged, gap, spelled) = keeps_end strict a h xs u w t c b k tagged gap.0 spelled

pub keeps_valued : (strict : Bool) (a : Around) (h : Holder) (xs : List Attribute) (t : List ℕ) (c : Class) (b : ℕ) → Known c b → Has strict a (at_valued h xs) t → After strict (valued_step a h xs c) (t ++ b ∷ [])
keeps_valued strict a h xs t White b k has = (t, b ∷ [], has, gap_one b k.white, refl)
keeps_valued strict a h xs t c b k has = keeps_end strict a h xs t [] t c b k has tt (sym (append-nil t))

when_new : (P : Step → Type 0) (n : List ℕ) (xs : List Attribute) (s : Step) → (IsNew n xs → P s) → P leaves → P (if_new n xs s)
when_new P n xs s p q = elim (cases_Bool (has_name n xs)) [ inl e ↦ rw e q | inr e ↦ rw e (p (name_is_new n xs e)) ]

attribute_grows : (strict : Bool) (a : Around) (h : Holder) (xs : List Attribute) (n t : List ℕ) (b : ℕ) → IsTrue (is_name_byte b) → Has strict a (in_attribute h xs n) t
    → Has strict a (in_attribute h xs (n ++ b ∷ [])) (t ++ b ∷ [])
attribute_grows strict a h xs n t b is (u, w, tagged, gap, named, spelled) = (u, w, tagged, gap, name_more n b named is, rw spelled (simp append_assoc))

pub keeps_attribute : (strict : Bool) (a : Around) (h : Holder) (xs : List Attribute) (n t : List ℕ) (c : Class) (b : ℕ) → Known c b → Has strict a (in_attribute h xs n) t
    → After strict (attribute_step a h xs n c b) (t ++ b ∷ [])
keeps_attribute strict a h xs n t Letter b k has = attribute_grows strict a h xs n t b k.named has
keeps_attribute strict a h xs n t Digit b k has = attribute_grows strict a h xs n t b k.named has
keeps_attribute strict a h xs n t Hyphen b k has = attribute_grows strict a h xs n t b k.named has
keeps_attribute strict a h xs n t Wide b k has = attribute_grows strict a h xs n t b k.named has
keeps_attribute strict a h xs n t White b k (u, w, tagged, gap, named, spelled) =
    when_new (λ s. After strict s (t ++ b ∷ [])) n xs (goes a (at_named h xs n))
    (λ new. (u, w, b ∷ [], tagged, gap, named, new, (k.white, tt), rw spelled (simp append_assoc))) tt
keeps_attribute strict a h xs n t Equals b k (u, w, tagged, gap, named, spelled) =
    when_new (λ s. After strict s (t ++ b ∷ [])) n xs (goes a (at_equals h xs n))
    (λ new. (u, w, [], [], tagged, gap, named, new, tt, tt, rw (spelled, k.code) (simp append_assoc))) tt
keeps_attribute strict a h xs n t c b k has = tt

pub keeps_named : (strict : Bool) (a : Around) (h : Holder) (xs : List Attribute) (n t : List ℕ) (c : Class) (b : ℕ) → Known c b → Has strict a (at_named h xs n) t
    → After strict (named_step a h xs n c) (t ++ b ∷ [])
keeps_named strict a h xs n t White b k (u, w, v, tagged, gap, named, new, white, spelled) =
    (u, w, v ++ b ∷ [], tagged, gap, named, new, white_more v b white k.white, rw spelled (simp append_assoc))
keeps_named strict a h xs n t Equals b k (u, w, v, tagged, gap, named, new, white, spelled) =
    (u, w, v, [], tagged, gap, named, new, white, tt, rw (spelled, k.code) (simp append_assoc))
keeps_named strict a h xs n t c b k has = tt

pub keeps_equals : (strict : Bool) (a : Around) (h : Holder) (xs : List Attribute) (n t : List ℕ) (c : Class) (b : ℕ) → Known c b → Has strict a (at_equals h xs n) t
    → After strict (equals_step a h xs n c b) (t ++ b ∷ [])
keeps_equals strict a h xs n t White b k (u, w, v, y, tagged, gap, named, new, white, white_after, spelled) =
    (u, w, v, y ++ b ∷ [], tagged, gap, named, new, white, white_more y b white_after k.white, rw spelled (simp append_assoc))
keeps_equals strict a h xs n t Quote b k (u, w, v, y, tagged, gap, named, new, white, white_after, spelled) = record {
  front = u;
  head = w ++ (n ++ (v ++ (61 ∷ (y ++ (b ∷ [])))));
  items = [];
  tagged = tagged;
  is_head = record { gap = w; before = v; after = y; is_gap = gap; is_name = named; white_before = white; white_after = white_after; is_quote = k.code; spelled = refl };
  is_new = new;
  are_quoted = tt;
  value_is = refl;
  spelled = rw spelled (simp (append_assoc, append-nil));
}
keeps_equals strict a h xs n t c b k has = tt

-- a byte or an entity in a value
pub value_byte : (strict : Bool) (a : Around) (h : Holder) (xs : List Attribute) (n : List ℕ) (q : ℕ) (v t : List ℕ) (b : ℕ) → IsTrue (is_plain b) → b ≢ q → Valued strict a h xs n q v t
    → Valued strict a h xs n q (v ++ b ∷ []) (t ++ b ∷ [])
value_byte strict a h xs n q v t b plain other has = record {
  front = has.front;
  head = has.head;
  items = has.items ++ byte b ∷ [];
  tagged = has.tagged;
  is_head = has.is_head;
  is_new = has.is_new;
  are_quoted = each-append (IsQuoted q) has.items (byte b ∷ []) has.are_quoted ((plain, other), tt);
  value_is = ap (λ s. s ++ b ∷ []) has.value_is ∙ sym (items_value-one has.items (byte b));
  spelled = rw (has.spelled, items_text-one has.items (byte b)) (simp append_assoc);
}

pub value_entity : (strict : Bool) (a : Around) (h : Holder) (xs : List Attribute) (n : List ℕ) (q : ℕ) (v t : List ℕ) (e : Entity) → Valued strict a h xs n q v t
    → Valued strict a h xs n q (v ++ entity_value e ∷ []) (t ++ entity_text e)
value_entity strict a h xs n q v t e has = record {
  front = has.front;
  head = has.head;
  items = has.items ++ entity e ∷ [];
  tagged = has.tagged;
  is_head = has.is_head;
  is_new = has.is_new;
  are_quoted = each-append (IsQuoted q) has.items (entity e ∷ []) has.are_quoted (tt, tt);
  value_is = ap (λ s. s ++ entity_value e ∷ []) has.value_is ∙ sym (items_value-one has.items (entity e));
  spelled = rw (has.spelled, items_text-one has.items (entity e)) (simp append_assoc);
}

allowed_more : (strict : Bool) (h : Holder) (xs : List Attribute) (x : Attribute) → AllowedIn strict h xs → AllowedIn strict h (x ∷ []) → AllowedIn strict h (xs ++ x ∷ [])
allowed_more strict (tag n) xs x all one = tt
allowed_more strict declaration xs x all one = each-append (Allowed strict) xs (x ∷ []) all one

-- the attribute whose value ends
attribute_ends : (strict : Bool) (a : Around) (h : Holder) (xs : List Attribute) (n : List ℕ) (q : ℕ) (v t : List ℕ) → Valued strict a h xs n q v t
    → AllowedIn strict h (record { name = n; value = v } ∷ []) → Tagged strict a h (xs ++ record { name = n; value = v } ∷ []) (t ++ q ∷ [])
attribute_ends strict a h xs n q v t has allowed = record {
  front = has.tagged.front;
  middle = has.tagged.middle ++ (has.head ++ (items_text has.items ++ (q ∷ [])));
  is_front = has.tagged.is_front;
  are_attributes = attributes_more xs has.tagged.middle (record { name = n; value = v }) (has.head ++ (items_text has.items ++ (q ∷ []))) has.tagged.are_attributes
      (record { quote = q; head = has.head; items = has.items; is_head = has.is_head; are_quoted = has.are_quoted; value = has.value_is; spelled = refl });
  are_distinct = distinct_one_more xs (record { name = n; value = v }) has.tagged.are_distinct has.is_new;
  allowed = allowed_more strict h xs (record { name = n; value = v }) has.tagged.allowed allowed;
  spelled = rw (has.spelled, has.tagged.spelled) (simp append_assoc);
}

allowed_parts : (x y : Bool) → (x && not y) ≡ false → x ≡ true → y ≡ true
allowed_parts true true e f = refl
allowed_parts true false e f = cc
allowed_parts false y e f = cc

allowed_if_fits : (strict : Bool) (n v : List ℕ) → declares_other n v ≡ false → Allowed strict (record { name = n; value = v })
allowed_if_fits false n v e = tt
allowed_if_fits true n v e = λ named. bytes_same (str_to_ascii_lowercase v) (codes "utf-8")
    (allowed_parts (bytes_eq n (codes "encoding")) (bytes_eq (str_to_ascii_lowercase v) (codes "utf-8")) e ((bytes_eq-Decides n (codes "encoding")).1 named))

other_ends : (strict : Bool) (a : Around) (xs : List Attribute) (n : List ℕ) (q : ℕ) (v t : List ℕ) → Valued strict a declaration xs n q v t
    → After strict (other_encoding a (at_valued declaration (xs ++ record { name = n; value = v } ∷ []))) (t ++ q ∷ [])
other_ends true a xs n q v t has = tt
other_ends false a xs n q v t has = attribute_ends false a declaration xs n q v t has (tt, tt)

value_ends : (strict : Bool) (a : Around) (h : Holder) (xs : List Attribute) (n : List ℕ) (q : ℕ) (v t : List ℕ) → Valued strict a h xs n q v t
    → After strict (value_end a h xs n v) (t ++ q ∷ [])
value_ends strict a (tag m) xs n q v t has = attribute_ends strict a (tag m) xs n q v t has tt
value_ends strict a declaration xs n q v t has = elim (cases_Bool (declares_other n v)) [
  | inl e ↦ rw e (other_ends strict a xs n q v t has)
  | inr e ↦ rw e (attribute_ends strict a declaration xs n q v t has (allowed_if_fits strict n v e, tt))
]

first_false : (x y : Bool) → (x || y) ≡ false → x ≡ false
first_false false y e = refl
first_false true y e = cc

second_false : (x y : Bool) → (x || y) ≡ false → y ≡ false
second_false false y e = e
second_false true y e = cc

-- a byte that is no quote isn't this one
not_quote : (b q : ℕ) → ((eqb b 34) || (eqb b 39)) ≡ false → (q ≡ 34) ⊎ (q ≡ 39) → b ≢ q
not_quote b q e (inl is) same = eqb-false b 34 (first_false (eqb b 34) (eqb b 39) e) (same ∙ is)
not_quote b q e (inr is) same = eqb-false b 39 (second_false (eqb b 34) (eqb b 39) e) (same ∙ is)

pub keeps_value : (strict : Bool) (a : Around) (h : Holder) (xs : List Attribute) (n : List ℕ) (q : ℕ) (v t : List ℕ) (c : Class) (b : ℕ) → Known c b → Has strict a (in_value h xs n q v) t
    → After strict (value_step a h xs n q v c b) (t ++ b ∷ [])
keeps_value strict a h xs n q v t Quote b k has = elim (cases_Bool (eqb b q)) [
  | inl e ↦ rw e (rw (eqb-true b q e) (value_ends strict a h xs n q v t has))
  | inr e ↦ rw e (value_byte strict a h xs n q v t b k.plain (eqb-false b q e) has)
]
keeps_value strict a h xs n q v t Less b k has = tt
keeps_value strict a h xs n q v t Control b k has = tt
keeps_value strict a h xs n q v t Ampersand b k has = (t, has, rw k.code refl)
keeps_value strict a h xs n q v t c b k has = value_byte strict a h xs n q v t b k.plain (not_quote b q k.quote has.is_head.is_quote) has
