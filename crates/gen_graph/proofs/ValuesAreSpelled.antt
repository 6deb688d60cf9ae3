-- Values of attributes: the written text of a value spells it, and is UTF-8.
use Rattle.std.proofs.Common.{◌≡◌, ℕ, zero, suc, ◌<◌, ◌≤◌, Bool, true, false, not, ◌&&◌, ◌==◌, nat_lt, List, [], ◌∷◌, ◌++◌, length, get_or, inl, inr, refl, sym, ap, ◌∙◌, subst, arith}
use Rattle.std.specs.Prelude.{IsTrue}
use Rattle.std.specs.Str.{IsUtf8}
use Rattle.std.specs.List.{list_all}
use Rattle.std.proofs.Math.Utf8.{encode, encodes, scalar, scalars}
use Rattle.std.proofs.lemmas.List.{append_assoc, append-nil}
use Rattle.std.proofs.lemmas.Bool.{cases_Bool, cases_lt, eqb-true, eqb-false, ne_eqb, and_from, and_parts, ltb-true, lt-ltb}
use Rattle.std.proofs.lemmas.Str.{IsUtf8-append, IsUtf8-nil, IsUtf8-from_ascii, encode_ascii, inside_one}
use Rattle.file_text.specs.Grammar.{Each, Item, byte, entity, Entity, less, greater, ampersand, quotation, apostrophe, entity_text, entity_value, item_text, items_text, item_value, items_value, is_character, IsQuoted}
use Rattle.gen_graph.specs.NodeTexts.{escaped_byte, escaped}

-- ---- ASCII

abbrev pub is_ascii : List ℕ → Bool
is_ascii t = list_all (λ b. nat_lt b 128) t

ascii_at : (t : List ℕ) → is_ascii t ≡ true → (i : ℕ) → get_or t i 0 < 128
ascii_at [] e i = omega arith
ascii_at (b ∷ bs) e zero = ltb-true b 128 (and_parts (nat_lt b 128) (is_ascii bs) e).0
ascii_at (b ∷ bs) e (suc i) = ascii_at bs (and_parts (nat_lt b 128) (is_ascii bs) e).1 i

pub ascii_utf8 : (t : List ℕ) → is_ascii t ≡ true → IsUtf8 t
ascii_utf8 t e = IsUtf8-from_ascii t (ascii_at t e)

-- ---- a byte

-- a byte, and how it is written
record Stands (b : ℕ) : Type 0 where
  item : Item
  text : item_text item ≡ escaped_byte b
  value : item_value item ≡ b ∷ []
  quoted : IsTrue (is_character b) → IsQuoted 39 item
  utf8 : b < 128 → IsUtf8 (escaped_byte b)

plain_byte : (b : ℕ) → b == 38 ≡ false → b == 60 ≡ false → b == 62 ≡ false → b == 34 ≡ false → b == 39 ≡ false → escaped_byte b ≡ b ∷ []
unfolding escaped_byte
plain_byte b e38 e60 e62 e34 e39 = rw (e38, e60, e62, e34, e39) refl

quoted_byte : (b : ℕ) → b == 38 ≡ false → b == 60 ≡ false → b == 39 ≡ false → IsTrue (is_character b) → IsQuoted 39 (byte b)
quoted_byte b e38 e60 e39 c = (and_from (is_character b) (not (b == 60) && not (b == 38)) c (rw (e60, e38) refl), eqb-false b 39 e39)

as_entity : (b c : ℕ) (e : Entity) → b == c ≡ true → escaped_byte c ≡ entity_text e → entity_value e ≡ c → is_ascii (entity_text e) ≡ true → Stands b
as_entity b c e test text value ascii =
    let is : b ≡ c = eqb-true b c test in
    let all : escaped_byte b ≡ entity_text e = ap escaped_byte is ∙ text in
    record {
      item = entity e;
      text = sym all;
      value = ap (λ n. n ∷ []) (value ∙ sym is);
      quoted = λ c. tt;
      utf8 = λ low. subst IsUtf8 (sym all) (ascii_utf8 (entity_text e) ascii);
    }

as_byte : (b : ℕ) → b == 38 ≡ false → b == 60 ≡ false → b == 62 ≡ false → b == 34 ≡ false → b == 39 ≡ false → Stands b
as_byte b e38 e60 e62 e34 e39 =
    let all : escaped_byte b ≡ b ∷ [] = plain_byte b e38 e60 e62 e34 e39 in
    record {
      item = byte b;
      text = sym all;
      value = refl;
      quoted = λ c. quoted_byte b e38 e60 e39 c;
      utf8 = λ low. subst IsUtf8 (sym all) (ascii_utf8 (b ∷ []) (and_from (nat_lt b 128) true (lt-ltb b 128 low) refl));
    }

stands : (b : ℕ) → Stands b
unfolding escaped_byte
stands b =
    elim (cases_Bool (b == 38)) [
      | inl e ↦ as_entity b 38 ampersand e refl refl refl
      | inr e38 ↦ elim (cases_Bool (b == 60)) [
        | inl e ↦ as_entity b 60 less e refl refl refl
        | inr e60 ↦ elim (cases_Bool (b == 62)) [
          | inl e ↦ as_entity b 62 greater e refl refl refl
          | inr e62 ↦ elim (cases_Bool (b == 34)) [
            | inl e ↦ as_entity b 34 quotation e refl refl refl
            | inr e34 ↦ elim (cases_Bool (b == 39)) [
              | inl e ↦ as_entity b 39 apostrophe e refl refl refl
              | inr e39 ↦ as_byte b e38 e60 e62 e34 e39
            ]
          ]
        ]
      ]
    ]

-- ---- a value

-- the value as items of a text in `'`
pub record AreItems (v : List ℕ) : Type 0 where
  pub items : List Item
  pub quoted : Each (IsQuoted 39) items
  pub text : items_text items ≡ escaped v
  pub value : v ≡ items_value items

pub items_of : (v : List ℕ) → Each (λ b. IsTrue (is_character b)) v → AreItems v
items_of [] are = record { items = []; quoted = tt; text = refl; value = refl }
items_of (b ∷ bs) are =
    let first = stands b in
    let rest = items_of bs are.1 in
    record {
      items = first.item ∷ rest.items;
      quoted = (first.quoted are.0, rest.quoted);
      text = ap (λ (t : List ℕ). t ++ items_text rest.items) first.text ∙ ap (λ (t : List ℕ). escaped_byte b ++ t) rest.text;
      value = ap (λ (t : List ℕ). b ∷ t) rest.value ∙ ap (λ (t : List ℕ). t ++ items_value rest.items) (sym first.value);
    }

escaped_joined : (xs ys : List ℕ) → escaped (xs ++ ys) ≡ escaped xs ++ escaped ys
escaped_joined [] ys = refl
escaped_joined (x ∷ xs) ys = ap (λ (t : List ℕ). escaped_byte x ++ t) (escaped_joined xs ys) ∙ sym (append_assoc (escaped_byte x) (escaped xs) (escaped ys))

-- bytes of a character that isn't ASCII stay as they are
escaped_high : (v : List ℕ) → ((k : ℕ) → k < length v → 128 ≤ get_or v k 0) → escaped v ≡ v
escaped_high [] high = refl
escaped_high (b ∷ bs) high =
    let here : 128 ≤ b = high 0 (omega arith) in
    let rest : escaped bs ≡ bs = escaped_high bs (λ k lt. high (suc k) (omega arith)) in
    let plain : escaped_byte b ≡ b ∷ [] = plain_byte b (ne_eqb b 38 (λ e. omega arith)) (ne_eqb b 60 (λ e. omega arith)) (ne_eqb b 62 (λ e. omega arith)) (ne_eqb b 34 (λ e. omega arith)) (ne_eqb b 39 (λ e. omega arith)) in
    ap (λ (t : List ℕ). t ++ escaped bs) plain ∙ ap (λ (t : List ℕ). b ∷ t) rest

high_bytes : (c : ℕ) → 128 ≤ c → (k : ℕ) → k < length (encode c) → 128 ≤ get_or (encode c) k 0
high_bytes c high k lt =
    elim (cases_lt (get_or (encode c) k 0) 128) [
      | inl low ↦ let same = inside_one c [] (encode c) k (sym (append-nil (encode c))) lt low in absurd (omega arith)
      | inr above ↦ above
    ]

escaped_char : (c : ℕ) → scalar c ≡ true → IsUtf8 (escaped (encode c))
escaped_char c is =
    elim (cases_lt c 128) [
      | inl low ↦
          let same : escaped (encode c) ≡ escaped_byte c = ap escaped (encode_ascii c low) ∙ append-nil (escaped_byte c) in
          subst IsUtf8 (sym same) ((stands c).utf8 low)
      | inr high ↦
          let one : IsUtf8 (encode c) = (c ∷ [], (and_from (scalar c) true is refl, append-nil (encode c))) in
          subst IsUtf8 (sym (escaped_high (encode c) (high_bytes c high))) one
    ]

escaped_all : (cs : List ℕ) → scalars cs ≡ true → IsUtf8 (escaped (encodes cs))
escaped_all [] are = IsUtf8-nil
escaped_all (c ∷ cs) are =
    let both = and_parts (scalar c) (scalars cs) are in
    subst IsUtf8 (sym (escaped_joined (encode c) (encodes cs))) (IsUtf8-append (escaped (encode c)) (escaped (encodes cs)) (escaped_char c both.0) (escaped_all cs both.1))

pub escaped_utf8 : (v : List ℕ) → IsUtf8 v → IsUtf8 (escaped v)
escaped_utf8 v is = subst (λ t. IsUtf8 (escaped t)) is.1.1 (escaped_all is.0 is.1.0)
