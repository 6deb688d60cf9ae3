-- The values of attributes in a tree that a text spells: characters that a text may have, in UTF-8.
use Rattle.std.proofs.Common.{◌≡◌, ℕ, ◌+◌, ◌≤◌, ◌<◌, ◌⊎◌, inl, inr, List, [], ◌∷◌, ◌++◌, length, drop, get_or, Option, Some, None, All, append_assoc, subst, sym, refl, ap, ◌∙◌, arith}
use Rattle.std.specs.Prelude.{IsTrue}
use Rattle.std.specs.Str.{IsUtf8}
use Rattle.std.proofs.Math.Seq.{take-append_seam, drop-append_seam, get_or-append_seam}
use Rattle.std.proofs.lemmas.Bool.{and_parts}
use Rattle.std.proofs.lemmas.Bool.Decides.{nat_tests}
use Rattle.std.proofs.lemmas.List.{length-append}
use Rattle.std.proofs.lemmas.List.Elements.{All-nil, All-cons}
use Rattle.std.proofs.lemmas.Str.{IsUtf8-take, IsUtf8-drop, IsCharBoundary-before_ascii, IsCharBoundary-after_ascii}
use Rattle.file_text.specs.declared.due.Due.{Due}
use Rattle.file_text.specs.declared.due.Due.TheVariants.{Nothing, Byte}
use Rattle.file_text.specs.declared.tree.Attribute.{Attribute}
use Rattle.file_text.specs.inside.Utf8.{due_after, due_after_first, due_along}
use Rattle.file_text.specs.Node.{Node, node, Nodes, no_node, node_then}
use Rattle.file_text.specs.Grammar.{Each, Entity, less, greater, ampersand, quotation, apostrophe, Item, byte, entity, comment, entity_text, entity_value, items_text, items_value, is_character, IsQuoted, IsHead, IsAttribute, AreAttributes, IsTag, IsElement, IsContent, IsText}
use Rattle.file_text.specs.Values.{AreCharacters, HasCharacters, HaveCharacters}
use Rattle.file_text.proofs.BytesSpellUtf8.{ascii_along, due_along-IsUtf8, due_along-none, IsUtf8-due_along}

-- ---- pieces of a text

-- t stands somewhere in a text
abbrev pub IsPieceOf : List ℕ → List ℕ → Type 0
IsPieceOf whole t = (u v : List ℕ) × (whole ≡ u ++ (t ++ v))

piece-left : (whole a b : List ℕ) → IsPieceOf whole (a ++ b) → IsPieceOf whole a
piece-left whole a b (u, v, is) = (u, b ++ v, is ∙ ap (λ t. u ++ t) (append_assoc a b v))

piece-right : (whole a b : List ℕ) → IsPieceOf whole (a ++ b) → IsPieceOf whole b
piece-right whole a b (u, v, is) = (u ++ a, v, is ∙ (ap (λ t. u ++ t) (append_assoc a b v) ∙ sym (append_assoc u a (b ++ v))))

-- a text of UTF-8 is cut before and behind an ASCII character
cut-ascii : (u v : List ℕ) (q : ℕ) → q < 128 → IsUtf8 (u ++ q ∷ v) → IsUtf8 u × IsUtf8 v
cut-ascii u v q ascii utf8 = (
  subst IsUtf8 (take-append_seam u (q ∷ v)) (IsUtf8-take (u ++ q ∷ v) (length u) utf8 (IsCharBoundary-before_ascii (u ++ q ∷ v) (length u) below here)),
  subst IsUtf8 behind (IsUtf8-drop (u ++ q ∷ v) (length u + 1) utf8 (IsCharBoundary-after_ascii (u ++ q ∷ v) (length u) utf8 below here)),
)
  where
    below : length u < length (u ++ q ∷ v)
    below = omega (arith, length-append u (q ∷ v))

    at : get_or (u ++ q ∷ v) (length u) 0 ≡ q
    at = get_or-append_seam u q v 0

    here : get_or (u ++ q ∷ v) (length u) 0 < 128
    here = omega (arith, at)

    behind : drop (length u + 1) (u ++ q ∷ v) ≡ v
    behind =
        let e : length (u ++ q ∷ []) ≡ length u + 1 = omega (arith, length-append u (q ∷ [])) in
        ap (λ (n : ℕ). drop n (u ++ q ∷ v)) (sym e) ∙ (ap (drop (length (u ++ q ∷ []))) (sym (append_assoc u (q ∷ []) v)) ∙ drop-append_seam (u ++ q ∷ []) v)

-- what stands between two ASCII characters in a text of UTF-8 is UTF-8
between-ascii : (whole t : List ℕ) (p q : ℕ) → p < 128 → q < 128 → IsUtf8 whole → IsPieceOf whole (p ∷ (t ++ q ∷ [])) → IsUtf8 t
between-ascii whole t p q first last utf8 (u, v, is) =
    let back : IsUtf8 ((t ++ q ∷ []) ++ v) = (cut-ascii u ((t ++ q ∷ []) ++ v) p first (subst IsUtf8 is utf8)).1 in
    (cut-ascii t v q last (subst IsUtf8 (append_assoc t (q ∷ []) v) back)).0

-- ---- the value that items say

-- bytes that are due are no ASCII characters
abbrev IsHigh : Option Due → Type 0
IsHigh None = Unit {0}
IsHigh (Some Nothing) = Unit {0}
IsHigh (Some (Byte low high more)) = 128 ≤ low

first-high : (b : ℕ) → IsHigh (due_after_first b)
first-high b = at (due_after_first b) refl
  where
    low : (low high more : ℕ) → due_after_first b ≡ Some (Byte low high more) → 128 ≤ low
    low l h m is = grind (arith, nat_tests)

    at : (d : Option Due) → due_after_first b ≡ d → IsHigh d
    at None is = tt
    at (Some Nothing) is = tt
    at (Some (Byte l h m)) is = low l h m is

after-high : (d : Due) (b : ℕ) → IsHigh (due_after d b)
after-high Nothing b = first-high b
after-high (Byte l h m) b = at (due_after (Byte l h m) b) refl
  where
    low : (low high more : ℕ) → due_after (Byte l h m) b ≡ Some (Byte low high more) → 128 ≤ low
    low l' h' m' is = grind (arith, nat_tests)

    at : (d : Option Due) → due_after (Byte l h m) b ≡ d → IsHigh d
    at None is = tt
    at (Some Nothing) is = tt
    at (Some (Byte l' h' m')) is = low l' h' m' is

-- an ASCII character comes only where nothing is due, and leaves nothing due
ascii-alone : (d : Option Due) (b : ℕ) (rest : List ℕ) → b < 128 → IsHigh d → due_along d (b ∷ rest) ≡ Some Nothing → (d ≡ Some Nothing) × (due_along (Some Nothing) rest ≡ Some Nothing)
ascii-alone None b rest ascii high is = absurd (let none : due_along None (b ∷ rest) ≡ None = due_along-none (b ∷ rest) in cc)
ascii-alone (Some Nothing) b rest ascii high is = (refl, sym (ascii_along b rest ascii) ∙ is)
ascii-alone (Some (Byte low h more)) b rest ascii high is =
    let stops : due_after (Byte low h more) b ≡ None = grind (arith, nat_tests) in
    absurd (let none : due_along None rest ≡ None = due_along-none rest in let gone : due_along (due_after (Byte low h more) b) rest ≡ due_along None rest = ap (λ (d : Option Due). due_along d rest) stops in cc)

-- each entity is ASCII, from its first character to its last
entity-along : (e : Entity) (d : Option Due) (rest : List ℕ) → IsHigh d → due_along d (entity_text e ++ rest) ≡ Some Nothing → (d ≡ Some Nothing) × (due_along (Some Nothing) rest ≡ Some Nothing)
entity-along less d rest high is = ascii-alone d 38 (108 ∷ 116 ∷ 59 ∷ rest) (omega arith) high is
entity-along greater d rest high is = ascii-alone d 38 (103 ∷ 116 ∷ 59 ∷ rest) (omega arith) high is
entity-along ampersand d rest high is = ascii-alone d 38 (97 ∷ 109 ∷ 112 ∷ 59 ∷ rest) (omega arith) high is
entity-along quotation d rest high is = ascii-alone d 38 (113 ∷ 117 ∷ 111 ∷ 116 ∷ 59 ∷ rest) (omega arith) high is
entity-along apostrophe d rest high is = ascii-alone d 38 (97 ∷ 112 ∷ 111 ∷ 115 ∷ 59 ∷ rest) (omega arith) high is

entity-ascii : (e : Entity) → entity_value e < 128
entity-ascii less = omega arith
entity-ascii greater = omega arith
entity-ascii ampersand = omega arith
entity-ascii quotation = omega arith
entity-ascii apostrophe = omega arith

value-along : (quote : ℕ) (items : List Item) (d : Option Due) → Each (IsQuoted quote) items → IsHigh d → due_along d (items_text items) ≡ Some Nothing → due_along d (items_value items) ≡ Some Nothing
value-along quote [] d all high is = is
value-along quote (byte b ∷ items) None all high is = absurd (let none : due_along None (b ∷ items_text items) ≡ None = due_along-none (b ∷ items_text items) in cc)
value-along quote (byte b ∷ items) (Some d) all high is = value-along quote items (due_after d b) all.1 (after-high d b) is
value-along quote (entity e ∷ items) d all high is =
    let alone = entity-along e d (items_text items) high is in
    let rest : due_along (Some Nothing) (items_value items) ≡ Some Nothing = value-along quote items (Some Nothing) all.1 tt alone.1 in
    ap (λ (x : Option Due). due_along x (entity_value e ∷ items_value items)) alone.0 ∙ (ascii_along (entity_value e) (items_value items) (entity-ascii e) ∙ rest)
value-along quote (comment body ∷ items) d all high is = absurd all.0

-- ---- attributes and elements

entity-character : (e : Entity) → IsTrue (is_character (entity_value e))
entity-character less = refl
entity-character greater = refl
entity-character ampersand = refl
entity-character quotation = refl
entity-character apostrophe = refl

value-characters : (quote : ℕ) (items : List Item) → Each (IsQuoted quote) items → All (λ b. IsTrue (is_character b)) (items_value items)
value-characters quote [] all = All-nil (λ b. IsTrue (is_character b))
value-characters quote (byte b ∷ items) all = All-cons (λ b. IsTrue (is_character b)) b (items_value items) (and_parts _ _ all.0.0).0 (value-characters quote items all.1)
value-characters quote (entity e ∷ items) all = All-cons (λ b. IsTrue (is_character b)) (entity_value e) (items_value items) (entity-character e) (value-characters quote items all.1)
value-characters quote (comment body ∷ items) all = absurd all.0

piece-past : (whole a b t : List ℕ) → IsPieceOf whole ((a ++ b) ++ t) → IsPieceOf whole (b ++ t)
piece-past whole a b t piece = piece-right whole a (b ++ t) (subst (IsPieceOf whole) (append_assoc a b t) piece)

-- a value with the quotes round it
quoted-piece : (whole name t rest : List ℕ) (quote : ℕ) → IsHead name quote t → IsPieceOf whole (t ++ rest) → IsPieceOf whole (quote ∷ rest)
quoted-piece whole name t rest quote is piece =
    let from : IsPieceOf whole ((is.gap ++ (name ++ (is.before ++ (61 ∷ (is.after ++ quote ∷ []))))) ++ rest) = subst (λ (x : List ℕ). IsPieceOf whole (x ++ rest)) is.spelled piece in
    let named = piece-past whole is.gap (name ++ (is.before ++ (61 ∷ (is.after ++ quote ∷ [])))) rest from in
    let white = piece-past whole name (is.before ++ (61 ∷ (is.after ++ quote ∷ []))) rest named in
    let equals = piece-past whole is.before (61 ∷ (is.after ++ quote ∷ [])) rest white in
    let behind : IsPieceOf whole ((is.after ++ quote ∷ []) ++ rest) = piece-right whole (61 ∷ []) ((is.after ++ quote ∷ []) ++ rest) equals in
    piece-past whole is.after (quote ∷ []) rest behind

quote-ascii : (quote : ℕ) → (quote ≡ 34) ⊎ (quote ≡ 39) → quote < 128
quote-ascii quote (inl is) = omega (arith, is)
quote-ascii quote (inr is) = omega (arith, is)

value-read : (whole : List ℕ) (a : Attribute) (t : List ℕ) → IsUtf8 whole → IsAttribute a t → IsPieceOf whole t → AreCharacters a.value
value-read whole a t utf8 is piece =
    let ascii : is.quote < 128 = quote-ascii is.quote is.is_head.is_quote in
    let quoted : IsPieceOf whole (is.quote ∷ (items_text is.items ++ is.quote ∷ [])) = quoted-piece whole a.name is.head (items_text is.items ++ is.quote ∷ []) is.quote is.is_head (subst (IsPieceOf whole) is.spelled piece) in
    let text : IsUtf8 (items_text is.items) = between-ascii whole (items_text is.items) is.quote is.quote ascii ascii utf8 quoted in
    let value : IsUtf8 (items_value is.items) = IsUtf8-due_along (items_value is.items) (value-along is.quote is.items (Some Nothing) is.are_quoted tt (due_along-IsUtf8 (items_text is.items) text)) in
    record {
      characters = subst (λ (v : List ℕ). All (λ b. IsTrue (is_character b)) v) (sym is.value) (value-characters is.quote is.items is.are_quoted);
      utf8 = subst IsUtf8 (sym is.value) value;
    }

attributes-read : (whole : List ℕ) (attributes : List Attribute) (t : List ℕ) → IsUtf8 whole → AreAttributes attributes t → IsPieceOf whole t → Each (λ (a : Attribute). AreCharacters a.value) attributes
attributes-read whole [] t utf8 are piece = tt
attributes-read whole (a ∷ rest) t utf8 (u, v, one, others, spelled) piece =
    let both : IsPieceOf whole (u ++ v) = subst (IsPieceOf whole) spelled piece in
    (value-read whole a u utf8 one (piece-left whole u v both), attributes-read whole rest v utf8 others (piece-right whole u v both))

tag-read : (whole name : List ℕ) (attributes : List Attribute) (tag : List ℕ) → IsUtf8 whole → IsTag name attributes tag → IsPieceOf whole tag → Each (λ (a : Attribute). AreCharacters a.value) attributes
tag-read whole name attributes tag utf8 is piece =
    let opened : IsPieceOf whole (60 ∷ (name ++ (is.middle ++ is.gap))) = subst (IsPieceOf whole) is.spelled piece in
    attributes-read whole attributes is.middle utf8 is.are_attributes (piece-left whole is.middle is.gap (piece-right whole (60 ∷ name) (is.middle ++ is.gap) opened))

mutual
  element-read : (whole : List ℕ) (e : Node) (t : List ℕ) → IsUtf8 whole → IsElement e t → IsPieceOf whole t → HasCharacters e
  element-read whole (node name attributes children) t utf8 (tag, rest, is_tag, inl none, spelled) piece =
      let both : IsPieceOf whole (tag ++ rest) = subst (IsPieceOf whole) spelled piece in
      (tag-read whole name attributes tag utf8 is_tag (piece-left whole tag rest both), subst HaveCharacters (sym none.0) tt)
  element-read whole (node name attributes children) t utf8 (tag, rest, is_tag, inr is, spelled) piece =
      let both : IsPieceOf whole (tag ++ rest) = subst (IsPieceOf whole) spelled piece in
      let inside : IsPieceOf whole (62 ∷ (is.inner ++ (60 ∷ (47 ∷ (name ++ (is.gap ++ (62 ∷ []))))))) = subst (IsPieceOf whole) is.spelled (piece-right whole tag rest both) in (
        tag-read whole name attributes tag utf8 is_tag (piece-left whole tag rest both),
        content-read whole children is.inner utf8 is.content (piece-left whole is.inner (60 ∷ (47 ∷ (name ++ (is.gap ++ (62 ∷ []))))) (piece-right whole (62 ∷ []) (is.inner ++ (60 ∷ (47 ∷ (name ++ (is.gap ++ (62 ∷ [])))))) inside)),
      )

  content-read : (whole : List ℕ) (es : Nodes) (t : List ℕ) → IsUtf8 whole → IsContent es t → IsPieceOf whole t → HaveCharacters es
  content-read whole no_node t utf8 content piece = tt
  content-read whole (node_then e es) t utf8 (u, v, w, filler, element, content, spelled) piece =
      let all : IsPieceOf whole (u ++ (v ++ w)) = subst (IsPieceOf whole) spelled piece in
      let both : IsPieceOf whole (v ++ w) = piece-right whole u (v ++ w) all in
      (element-read whole e v utf8 element (piece-left whole v w both), content-read whole es w utf8 content (piece-right whole v w both))

pub text-characters : (e : Node) (t : List ℕ) → IsText e t → HasCharacters e
text-characters e t (declared, is, encoding) =
    element-read t e is.root is.utf8 is.is_root (is.prolog, is.misc, is.spelled)
