-- The written text of an element spells it.
use Rattle.std.proofs.Common.{◌≡◌, ℕ, ◌≤◌, Bool, true, false, ◌&&◌, List, [], ◌∷◌, ◌++◌, inl, inr, refl, sym, ap, ◌∙◌, arith}
use Rattle.std.specs.Prelude.{IsTrue, codes}
use Rattle.std.specs.Str.{IsUtf8}
use Rattle.std.specs.List.{list_all}
use Rattle.std.proofs.lemmas.List.{append_assoc, append-nil}
use Rattle.std.proofs.lemmas.Bool.{and_parts}
use Rattle.std.proofs.lemmas.Str.{IsUtf8-append, IsUtf8-nil}
use Rattle.file_text.specs.declared.tree.Attribute.{Attribute}
use Rattle.file_text.specs.Node.{Node, node, Nodes, no_node, node_then, nodes, depth, depths}
use Rattle.file_text.specs.Grammar.{Each, byte, is_character, is_name_start, is_name_byte, IsName, IsAttribute, AreAttributes, AreDistinct, IsElement, IsContent}
use Rattle.gen_graph.specs.NodeTexts.{escaped, attribute_text, attributes_text, inside_text, tagged, element_text, elements_text}
use Rattle.gen_graph.proofs.ValuesAreSpelled.{is_ascii, ascii_utf8, items_of, escaped_utf8}

-- ---- words of this project's own

-- a name of ASCII characters
abbrev pub is_word : List ℕ → Bool
is_word [] = false
is_word (b ∷ bs) = is_name_start b && (list_all is_name_byte bs && is_ascii (b ∷ bs))

name_bytes : (t : List ℕ) → list_all is_name_byte t ≡ true → Each (λ c. IsTrue (is_name_byte c)) t
name_bytes [] e = tt
name_bytes (b ∷ bs) e = let both = and_parts (is_name_byte b) (list_all is_name_byte bs) e in (both.0, name_bytes bs both.1)

-- an element's or an attribute's name
abbrev pub IsGoodName : List ℕ → Type 0
IsGoodName name = IsName name × IsUtf8 name

pub word : (t : List ℕ) → is_word t ≡ true → IsGoodName t
word [] e = absurd cc
word (b ∷ bs) e =
    let first = and_parts (is_name_start b) (list_all is_name_byte bs && is_ascii (b ∷ bs)) e in
    let rest = and_parts (list_all is_name_byte bs) (is_ascii (b ∷ bs)) first.1 in
    ((first.0, name_bytes bs rest.0), ascii_utf8 (b ∷ bs) rest.1)

-- a value
abbrev pub IsGoodValue : List ℕ → Type 0
IsGoodValue v = Each (λ b. IsTrue (is_character b)) v × IsUtf8 v

character_bytes : (t : List ℕ) → list_all is_character t ≡ true → Each (λ c. IsTrue (is_character c)) t
character_bytes [] e = tt
character_bytes (b ∷ bs) e = let both = and_parts (is_character b) (list_all is_character bs) e in (both.0, character_bytes bs both.1)

pub good_word : (t : List ℕ) → list_all is_character t ≡ true → is_ascii t ≡ true → IsGoodValue t
good_word t e ascii = (character_bytes t e, ascii_utf8 t ascii)

-- ---- attributes

abbrev pub IsGoodAttribute : Attribute → Type 0
IsGoodAttribute a = IsGoodName a.name × IsGoodValue a.value

head_first : (name value : List ℕ) → codes " " ++ (name ++ (codes "='" ++ (value ++ codes "'"))) ≡ (32 ∷ (name ++ ([] ++ (61 ∷ ([] ++ (39 ∷ [])))))) ++ (value ++ 39 ∷ [])
head_first name value = ap (λ (t : List ℕ). 32 ∷ t) (sym (append_assoc name (61 ∷ 39 ∷ []) (value ++ 39 ∷ [])))

spelled_attribute : (a : Attribute) → IsGoodAttribute a → IsAttribute a (attribute_text a)
unfolding attribute_text
spelled_attribute a good =
    let items = items_of a.value good.1.0 in
    record {
      quote = 39;
      head = 32 ∷ (a.name ++ ([] ++ (61 ∷ ([] ++ (39 ∷ [])))));
      items = items.items;
      is_head = record {
        gap = 32 ∷ [];
        before = [];
        after = [];
        is_gap = ((refl, tt), λ e. cc);
        is_name = good.0.0;
        white_before = tt;
        white_after = tt;
        is_quote = inr refl;
        spelled = refl;
      };
      are_quoted = items.quoted;
      value = items.value;
      spelled = head_first a.name (escaped a.value) ∙ ap (λ (t : List ℕ). (32 ∷ (a.name ++ (61 ∷ 39 ∷ []))) ++ (t ++ 39 ∷ [])) (sym items.text);
    }

pub spelled_attributes : (given : List Attribute) → Each IsGoodAttribute given → AreAttributes given (attributes_text given)
spelled_attributes [] good = refl
spelled_attributes (a ∷ given) good = (attribute_text a, attributes_text given, spelled_attribute a good.0, spelled_attributes given good.1, refl)

attribute_utf8 : (a : Attribute) → IsGoodAttribute a → IsUtf8 (attribute_text a)
unfolding attribute_text
attribute_utf8 a good =
    IsUtf8-append (codes " ") _ (ascii_utf8 (codes " ") refl) (
    IsUtf8-append a.name _ good.0.1 (
    IsUtf8-append (codes "='") _ (ascii_utf8 (codes "='") refl) (
    IsUtf8-append (escaped a.value) (codes "'") (escaped_utf8 a.value good.1.1) (ascii_utf8 (codes "'") refl))))

attributes_utf8 : (given : List Attribute) → Each IsGoodAttribute given → IsUtf8 (attributes_text given)
attributes_utf8 [] good = IsUtf8-nil
attributes_utf8 (a ∷ given) good = IsUtf8-append (attribute_text a) (attributes_text given) (attribute_utf8 a good.0) (attributes_utf8 given good.1)

-- ---- elements

-- names and values can be written, and no attribute stands twice
abbrev mutual
  pub IsGood : Node → Type 0
  IsGood (node name attributes children) = IsGoodName name × Each IsGoodAttribute attributes × AreDistinct attributes × AreGood children

  pub AreGood : Nodes → Type 0
  AreGood no_node = Unit {0}
  AreGood (node_then e es) = IsGood e × AreGood es

leaf_split : (name a : List ℕ) → 60 ∷ (name ++ (a ++ (47 ∷ 62 ∷ 10 ∷ []))) ≡ ((60 ∷ (name ++ (a ++ []))) ++ (47 ∷ 62 ∷ [])) ++ 10 ∷ []
leaf_split name a = simp (append_assoc, append-nil)

parent_split : (name a e : List ℕ) → 60 ∷ (name ++ (a ++ (62 ∷ 10 ∷ (e ++ (60 ∷ 47 ∷ (name ++ (62 ∷ 10 ∷ [])))))))
    ≡ ((60 ∷ (name ++ (a ++ []))) ++ (62 ∷ ((10 ∷ e) ++ (60 ∷ (47 ∷ (name ++ ([] ++ (62 ∷ [])))))))) ++ 10 ∷ []
parent_split name a e = simp (append_assoc, append-nil)

-- the text is that of the element, and a line feed
pub record IsLine (e : Node) : Type 0 where
  pub text : List ℕ
  pub spelled : IsElement e text
  pub whole : element_text e ≡ text ++ 10 ∷ []

mutual
  unfolding tagged inside_text

  pub line_of : (e : Node) → IsGood e → IsLine e
  line_of (node name given no_node) good = record {
    text = (60 ∷ (name ++ (attributes_text given ++ []))) ++ codes "/>";
    spelled = (
      60 ∷ (name ++ (attributes_text given ++ [])),
      codes "/>",
      record { middle = attributes_text given; gap = []; is_name = good.0.0; are_attributes = spelled_attributes given good.1; are_distinct = good.2; white = tt; spelled = refl },
      inl (refl, refl),
      refl,
    );
    whole = leaf_split name (attributes_text given);
  }
  line_of (node name given (node_then (node first bs cs) es)) good =
      let inner = elements_text (node_then (node first bs cs) es) in
      record {
        text = (60 ∷ (name ++ (attributes_text given ++ []))) ++ (62 ∷ ((10 ∷ inner) ++ (60 ∷ (47 ∷ (name ++ ([] ++ (62 ∷ [])))))));
        spelled = (
          60 ∷ (name ++ (attributes_text given ++ [])),
          62 ∷ ((10 ∷ inner) ++ (60 ∷ (47 ∷ (name ++ ([] ++ (62 ∷ [])))))),
          record { middle = attributes_text given; gap = []; is_name = good.0.0; are_attributes = spelled_attributes given good.1; are_distinct = good.2; white = tt; spelled = refl },
          inr (record { inner = 10 ∷ inner; gap = []; content = content_of (node_then (node first bs cs) es) good.3; white = tt; spelled = refl }),
          refl,
        );
        whole = parent_split name (attributes_text given) inner;
      }

  pub content_of : (es : Nodes) → AreGood es → IsContent es (10 ∷ elements_text es)
  content_of no_node good = (byte 10 ∷ [], (refl, tt), refl)
  content_of (node_then e es) good =
      let line = line_of e good.0 in (
        10 ∷ [],
        line.text,
        10 ∷ elements_text es,
        (byte 10 ∷ [], (refl, tt), refl),
        line.spelled,
        content_of es good.1,
        ap (λ (t : List ℕ). 10 ∷ t) (ap (λ (t : List ℕ). t ++ elements_text es) line.whole ∙ append_assoc line.text (10 ∷ []) (elements_text es)),
      )

inside_utf8 : (name t : List ℕ) → IsUtf8 name → IsUtf8 t → IsUtf8 (inside_text name t)
unfolding inside_text
inside_utf8 name [] is all = ascii_utf8 (codes "/>\n") refl
inside_utf8 name (b ∷ bs) is all =
    IsUtf8-append (codes ">\n") _ (ascii_utf8 (codes ">\n") refl) (
    IsUtf8-append (b ∷ bs) _ all (
    IsUtf8-append (codes "</") _ (ascii_utf8 (codes "</") refl) (
    IsUtf8-append name (codes ">\n") is (ascii_utf8 (codes ">\n") refl))))

mutual
  unfolding tagged

  pub element_utf8 : (e : Node) → IsGood e → IsUtf8 (element_text e)
  element_utf8 (node name given es) good =
      IsUtf8-append (codes "<") _ (ascii_utf8 (codes "<") refl) (
      IsUtf8-append name _ good.0.1 (
      IsUtf8-append (attributes_text given) _ (attributes_utf8 given good.1) (inside_utf8 name (elements_text es) good.0.1 (elements_utf8 es good.3))))

  pub elements_utf8 : (es : Nodes) → AreGood es → IsUtf8 (elements_text es)
  elements_utf8 no_node good = IsUtf8-nil
  elements_utf8 (node_then e es) good = IsUtf8-append (element_text e) (elements_text es) (element_utf8 e good.0) (elements_utf8 es good.1)

-- ---- lists of elements

-- an element that can be written and is at most so deep
abbrev pub IsFine : ℕ → Node → Type 0
IsFine most e = IsGood e × (depth e ≤ most)

pub good_nodes : (most : ℕ) (es : List Node) → Each (IsFine most) es → AreGood (nodes es)
good_nodes most [] fine = tt
good_nodes most (e ∷ es) fine = (fine.0.0, good_nodes most es fine.1)

pub depth_nodes : (most : ℕ) (es : List Node) → Each (IsFine most) es → depths (nodes es) ≤ most
depth_nodes most [] fine = omega arith
depth_nodes most (e ∷ es) fine = let first = fine.0.1 in let rest = depth_nodes most es fine.1 in omega arith

pub fine_both : (most : ℕ) (xs ys : List Node) → Each (IsFine most) xs → Each (IsFine most) ys → Each (IsFine most) (xs ++ ys)
fine_both most [] ys first rest = rest
fine_both most (x ∷ xs) ys first rest = (first.0, fine_both most xs ys first.1 rest)
