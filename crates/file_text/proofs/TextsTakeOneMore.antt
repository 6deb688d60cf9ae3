-- One more character, comment, attribute or element, and the text is of the same kind.
use Rattle.std.proofs.Common.{◌≡◌, ℕ, ◌+◌, ◌≤◌, refl, sym, ◌∙◌, ap, max, Bool, List, [], ◌∷◌, ◌++◌, append_assoc, append-nil, length, take, IsTrue, codes, arith}
use Rattle.file_text.specs.declared.tree.Attribute.{Attribute}
use Rattle.file_text.specs.Node.{Node, Nodes, no_node, node_then, nodes, depth, depths}
use Rattle.file_text.specs.Grammar.{is_white, is_character, is_name_byte, BeginsWithEnd, IsBody, IsWhite, IsGap, IsName, Item, item_text, items_text, item_value, items_value, IsOutside, IsBetween, IsAttribute, AreAttributes, IsFiller, IsElement, IsContent, IsMisc, IsProlog}
use Rattle.file_text.specs.inside.Machine.{Around, prolog, within, epilog, Opened, ended}
use Rattle.file_text.proofs.DistinctNamesStay.{each-append}
use Rattle.file_text.proofs.ReadSoFar.{IsOpen, Reached, Clean}

pub items_text-append : (xs ys : List Item) → items_text (xs ++ ys) ≡ items_text xs ++ items_text ys
items_text-append [] ys = refl
items_text-append (x ∷ xs) ys = rw append_assoc (ap (λ t. item_text x ++ t) (items_text-append xs ys))

pub items_value-append : (xs ys : List Item) → items_value (xs ++ ys) ≡ items_value xs ++ items_value ys
items_value-append [] ys = refl
items_value-append (x ∷ xs) ys = rw append_assoc (ap (λ t. item_value x ++ t) (items_value-append xs ys))

pub items_text-one : (xs : List Item) (x : Item) → items_text (xs ++ x ∷ []) ≡ items_text xs ++ item_text x
items_text-one xs x = items_text-append xs (x ∷ []) ∙ ap (λ t. items_text xs ++ t) (append-nil (item_text x))

pub items_value-one : (xs : List Item) (x : Item) → items_value (xs ++ x ∷ []) ≡ items_value xs ++ item_value x
items_value-one xs x = items_value-append xs (x ∷ []) ∙ ap (λ t. items_value xs ++ t) (append-nil (item_value x))

-- white, gaps and names
pub white_more : (w : List ℕ) (b : ℕ) → IsWhite w → IsTrue (is_white b) → IsWhite (w ++ b ∷ [])
white_more w b white is = each-append (λ c. IsTrue (is_white c)) w (b ∷ []) white (is, tt)

not_empty : (w : List ℕ) (b : ℕ) → w ++ b ∷ [] ≡ [] → ⊥
not_empty [] b e = cc
not_empty (x ∷ w) b e = cc

pub gap_one : (b : ℕ) → IsTrue (is_white b) → IsGap (b ∷ [])
gap_one b is = ((is, tt), λ e. cc)

pub gap_more : (w : List ℕ) (b : ℕ) → IsWhite w → IsTrue (is_white b) → IsGap (w ++ b ∷ [])
gap_more w b white is = (white_more w b white is, not_empty w b)

pub name_more : (n : List ℕ) (b : ℕ) → IsName n → IsTrue (is_name_byte b) → IsName (n ++ b ∷ [])
name_more [] b named is = absurd named
name_more (x ∷ n) b named is = (named.0, each-append (λ c. IsTrue (is_name_byte c)) n (b ∷ []) named.1 (is, tt))

-- content and what stands around the root
filler_item : (t : List ℕ) (x : Item) → IsFiller t → IsBetween x → IsFiller (t ++ item_text x)
filler_item t x (items, each, spelled) is =
    (items ++ x ∷ [], each-append IsBetween items (x ∷ []) each (is, tt), rw spelled (sym (items_text-one items x)))

pub content_item : (es : Nodes) (t : List ℕ) (x : Item) → IsContent es t → IsBetween x → IsContent es (t ++ item_text x)
content_item no_node t x filler is = filler_item t x filler is
content_item (node_then e es) t x (u, v, w, filler, first, others, spelled) is =
    (u, v, w ++ item_text x, filler, first, content_item es w x others is, rw spelled (simp append_assoc))

pub content_node : (xs : List Node) (t : List ℕ) (e : Node) (v : List ℕ) → IsContent (nodes xs) t → IsElement e v → IsContent (nodes (xs ++ e ∷ [])) (t ++ v)
content_node [] t e v filler is = (t, v, [], filler, is, ([], tt, refl), ap (λ s. t ++ s) (sym (append-nil v)))
content_node (x ∷ xs) t e v (a, b, c, filler, first, others, spelled) is =
    (a, b, c ++ v, filler, first, content_node xs c e v others is, rw spelled (simp append_assoc))

pub depths-more : (xs : List Node) (e : Node) → depths (nodes (xs ++ e ∷ [])) ≡ max (depths (nodes xs)) (depth e)
depths-more [] e = omega arith
depths-more (x ∷ xs) e = let more = depths-more xs e in omega arith

misc_item : (t : List ℕ) (x : Item) → IsMisc t → IsOutside x → IsMisc (t ++ item_text x)
misc_item t x (items, each, spelled) is =
    (items ++ x ∷ [], each-append IsOutside items (x ∷ []) each (is, tt), rw spelled (sym (items_text-one items x)))

prolog_item : (xs : List Attribute) (t : List ℕ) (x : Item) → IsProlog xs t → IsOutside x → IsProlog xs (t ++ item_text x)
prolog_item xs t x is outside = record {
  start = is.start;
  declaration = is.declaration;
  misc = is.misc ++ item_text x;
  is_start = is.is_start;
  is_declaration = is.is_declaration;
  is_misc = misc_item is.misc x is.is_misc outside;
  spelled = rw is.spelled (simp append_assoc);
}

-- between the tags of the innermost element
pub open_item : (strict : Bool) (o : Opened) (os : List Opened) (t : List ℕ) (x : Item) → IsOpen strict (o ∷ os) t → IsBetween x → IsOpen strict (o ∷ os) (t ++ item_text x)
open_item strict o os t x (u, v, before, (tag_text, inner, is_tag, content, opening), spelled, deep) is = (
  u,
  v ++ item_text x,
  before,
  (tag_text, inner ++ item_text x, is_tag, content_item (nodes o.children) inner x content is, rw opening (simp append_assoc)),
  rw spelled (simp append_assoc),
  deep,
)

-- white or a comment between tags
pub reached_item : (strict : Bool) (a : Around) (t : List ℕ) (x : Item) → Reached strict a t → IsOutside x → IsBetween x → Reached strict a (t ++ item_text x)
reached_item strict prolog t x (declared, is, allowed) outside between = (declared, prolog_item declared t x is outside, allowed)
reached_item strict (within o os) t x opened outside between = open_item strict o os t x opened between
reached_item strict (epilog e) t x closed outside between = record {
  declared = closed.declared;
  front = closed.front;
  root = closed.root;
  misc = closed.misc ++ item_text x;
  is_front = closed.is_front;
  allowed = closed.allowed;
  is_root = closed.is_root;
  is_misc = misc_item closed.misc x closed.is_misc outside;
  shallow = closed.shallow;
  spelled = rw closed.spelled (simp append_assoc);
}

-- an element has ended
pub closes : (strict : Bool) (os : List Opened) (e : Node) (u r : List ℕ) → IsOpen strict os u → IsElement e r → depth e + length os ≤ 32
    → Reached strict (ended os e) (u ++ r)
closes strict [] e u r (declared, is, allowed) element deep = record {
  declared = declared;
  front = u;
  root = r;
  misc = [];
  is_front = is;
  allowed = allowed;
  is_root = element;
  is_misc = ([], tt, refl);
  shallow = omega arith;
  spelled = rw append-nil refl;
}
closes strict (o ∷ os) e t r (u, v, before, (tag_text, inner, is_tag, content, opening), spelled, deep_before) element deep = (
  u,
  v ++ r,
  before,
  (tag_text, inner ++ r, is_tag, content_node o.children inner e r content element, rw opening (simp append_assoc)),
  rw spelled (simp append_assoc),
  (let more = depths-more o.children e in omega arith),
)

-- an attribute behind others
pub attributes_more : (xs : List Attribute) (t : List ℕ) (a : Attribute) (u : List ℕ) → AreAttributes xs t → IsAttribute a u → AreAttributes (xs ++ a ∷ []) (t ++ u)
attributes_more [] t a u none is = (u, [], is, refl, rw none (sym (append-nil u)))
attributes_more (x ∷ xs) t a u (v, w, first, others, spelled) is = (v, w ++ u, first, attributes_more xs w a u others is, rw spelled (simp append_assoc))

-- the body of a comment
hyphens_end : (x y b : ℕ) → (x ∷ y ∷ [] ≡ 45 ∷ 45 ∷ [] → b ≡ 62 → ⊥) → BeginsWithEnd (x ∷ y ∷ b ∷ []) → ⊥
hyphens_end x y b ends e =
    let first : x ≡ 45 = cc in
    let second : y ≡ 45 = cc in
    let third : b ≡ 62 = cc in
    let both : Path (List ℕ) (x ∷ y ∷ []) (45 ∷ 45 ∷ []) = cc in
    ends both third

pub clean_more : (t : List ℕ) (b : ℕ) → Clean t → IsTrue (is_character b) → ((c : List ℕ) → t ≡ c ++ 45 ∷ 45 ∷ [] → b ≡ 62 → ⊥) → Clean (t ++ b ∷ [])
clean_more [] b clean is ends = (is, (λ e. cc), tt)
clean_more (x ∷ []) b clean is ends = (clean.0, (λ e. cc), (is, (λ e. cc), tt))
clean_more (x ∷ y ∷ []) b clean is ends = (clean.0, (λ e. hyphens_end x y b (ends []) e), (clean.2.0, (λ e. cc), (is, (λ e. cc), tt)))
clean_more (x ∷ y ∷ z ∷ t) b clean is ends = (clean.0, clean.1, clean_more (y ∷ z ∷ t) b clean.2 is (λ c e. ends (x ∷ c) (ap (λ s. x ∷ s) e)))

-- the body of a comment that ends
same_begin : (b : ℕ) (bs : List ℕ) → take 3 (b ∷ (bs ++ 45 ∷ 45 ∷ [])) ≡ take 3 (b ∷ (bs ++ codes "-->"))
same_begin b [] = refl
same_begin b (x ∷ []) = refl
same_begin b (x ∷ y ∷ bs) = refl

pub body_from_clean : (body : List ℕ) → Clean (body ++ 45 ∷ 45 ∷ []) → IsBody body
body_from_clean [] clean = tt
body_from_clean (b ∷ bs) clean = (clean.0, (λ e. clean.1 (same_begin b bs ∙ e)), body_from_clean bs clean.2)
