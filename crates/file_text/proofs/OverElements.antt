-- The machine goes along elements, one in another.
use Rattle.std.proofs.Common.{◌≡◌, ℕ, suc, ◌+◌, ◌<◌, ◌≤◌, inl, inr, refl, sym, ◌∙◌, ap, subst, Bool, true, eqb, List, [], ◌∷◌, ◌++◌, append_assoc, append-nil, length, Some, IsTrue, codes, arith}
use Rattle.std.proofs.lemmas.Bool.{eq-eqb, lt-ltb, or_left}
use Rattle.file_text.specs.declared.tree.Attribute.{Attribute}
use Rattle.file_text.specs.Node.{Node, node, Nodes, no_node, node_then, nodes, list_of, depth, depths}
use Rattle.file_text.specs.Grammar.{Each, is_white, is_name_start, is_name_byte, IsName, IsTag, IsElement, IsContent}
use Rattle.file_text.specs.inside.Machine.{Around, prolog, within, epilog, Opened, open_of, entered, ended, node_of, Shape, at_between, at_markup, in_name, in_closing, tag, goes, open_step, follow, walk, table}
use Rattle.file_text.proofs.MachineWalks.{Along, then, at_begin, at_name, over_white, over_name}
use Rattle.file_text.proofs.OverTags.{Ready, ready_name, over_tag_white, over_attributes}
use Rattle.file_text.proofs.OverFillers.{over_filler}

-- an element may begin there
abbrev pub Begins : Bool → Around → Shape → Type 0
Begins strict a x = (b : ℕ) → IsTrue (is_name_start b) → Along strict a x (60 ∷ b ∷ []) a (in_name (b ∷ []))

-- there is room for an element
abbrev pub HasRoom : Around → Type 0
HasRoom prolog = Unit {0}
HasRoom (within o os) = suc (length os) < 32
HasRoom (epilog e) = ⊥

opens : (a : Around) (b : ℕ) → HasRoom a → open_step a b ≡ goes a (in_name (b ∷ []))
opens prolog b room = refl
opens (within o os) b room = rw (lt-ltb (suc (length os)) 32 room) refl
opens (epilog e) b room = absurd room

pub begins_between : (strict : Bool) (a : Around) → HasRoom a → Begins strict a at_between
unfolding table
begins_between strict a room b start rest =
    ap (λ o. walk strict o rest)
    (at_begin (λ c. follow strict (table a at_markup c b) ≡ Some (a, in_name (b ∷ []))) b start (ap (follow strict) (opens a b room)) (ap (follow strict) (opens a b room)))

pub name_bytes : (n : List ℕ) → IsName n → Each (λ b. IsTrue (is_name_byte b)) n
name_bytes [] named = absurd named
name_bytes (b ∷ bs) named = (or_left (is_name_start b) _ named.0, named.1)

-- the name of an element from its second byte on
over_element_name : (strict : Bool) (a : Around) (n w : List ℕ) → Each (λ b. IsTrue (is_name_byte b)) w → Along strict a (in_name n) w a (in_name (n ++ w))
unfolding table
over_element_name strict a n w h =
    over_name strict a (λ m. in_name m)
    (λ m c e. at_name (λ k. follow strict (table a (in_name m) k c) ≡ Some (a, in_name (m ++ c ∷ []))) c e refl refl refl refl) n w h

pub over_begun : (strict : Bool) (a : Around) (x : Shape) (n : List ℕ) → IsName n → Begins strict a x → Along strict a x (60 ∷ n) a (in_name n)
over_begun strict a x [] named begins rest = absurd named
over_begun strict a x (b ∷ bs) named begins rest = begins b named.0 (bs ++ rest) ∙ over_element_name strict a (b ∷ []) bs named.1 rest

-- a tag up to its end
pub over_tag : (strict : Bool) (a : Around) (x : Shape) (n : List ℕ) (xs : List Attribute) (t : List ℕ) → IsTag n xs t → Begins strict a x
    → (y : Shape) × Ready a y (tag n) xs × Along strict a x t a y
over_tag strict a x n xs t is begins =
    let (y, ready_y, along_y) = over_attributes strict a (in_name n) (tag n) [] xs is.middle (ready_name a n) is.are_distinct tt is.are_attributes in
    let (z, ready_z, along_z) = over_tag_white strict a y (tag n) xs is.gap ready_y is.white in (
      z,
      ready_z,
      rw is.spelled
          (then strict a x (60 ∷ n) a (in_name n) (is.middle ++ is.gap) a z (over_begun strict a x n is.is_name begins)
          (then strict a (in_name n) is.middle a y is.gap a z along_y along_z)),
    )

-- the name in an end tag
pub over_matched : (strict : Bool) (a : Around) (n : List ℕ) → Each (λ b. IsTrue (is_name_byte b)) n → Along strict a (in_closing n) n a (in_closing [])
unfolding table
over_matched strict a [] h rest = refl
over_matched strict a (b ∷ bs) h rest =
    let same : eqb b b ≡ true = eq-eqb b b refl in
    ap (λ o. walk strict o (bs ++ rest))
    (at_name (λ c. follow strict (table a (in_closing (b ∷ bs)) c b) ≡ Some (a, in_closing bs)) b h.0 (rw same refl) (rw same refl) (rw same refl) (rw same refl))
    ∙ over_matched strict a bs h.1 rest

-- an end tag
pub over_end_tag : (strict : Bool) (o : Opened) (os : List Opened) (gap : List ℕ) → IsName o.name → Each (λ b. IsTrue (is_white b)) gap
    → Along strict (within o os) at_between (60 ∷ (47 ∷ (o.name ++ (gap ++ 62 ∷ [])))) (ended os (node_of o)) at_between
unfolding table
over_end_tag strict o os gap named white =
    then strict (within o os) at_between (60 ∷ 47 ∷ []) (within o os) (in_closing o.name) (o.name ++ (gap ++ 62 ∷ [])) (ended os (node_of o)) at_between
    (λ rest. refl)
    (then strict (within o os) (in_closing o.name) o.name (within o os) (in_closing []) (gap ++ 62 ∷ []) (ended os (node_of o)) at_between
    (over_matched strict (within o os) o.name (name_bytes o.name named))
    (then strict (within o os) (in_closing []) gap (within o os) (in_closing []) (62 ∷ []) (ended os (node_of o)) at_between
    (over_white strict (within o os) (in_closing []) (λ b. refl) gap white) (λ rest. refl)))

pub nodes-list_of : (es : Nodes) → nodes (list_of es) ≡ es
nodes-list_of no_node = refl
nodes-list_of (node_then e es) = ap (node_then e) (nodes-list_of es)

-- an open element with more elements in it
abbrev pub grown : Opened → List Node → Opened
grown o es = record { name = o.name; attributes = o.attributes; children = o.children ++ es }

pub empty_ends : (strict : Bool) (a : Around) (y : Shape) (n : List ℕ) (xs : List Attribute) → Ready a y (tag n) xs
    → Along strict a y (codes "/>") (ended (open_of a) (node n xs no_node)) at_between
unfolding table
empty_ends strict a y n xs ready rest = ap (λ s. walk strict (follow strict s) (62 ∷ rest)) (ready.slash 47)

pub tag_ends : (strict : Bool) (a : Around) (y : Shape) (n : List ℕ) (xs : List Attribute) → Ready a y (tag n) xs
    → Along strict a y (62 ∷ []) (entered a n xs) at_between
unfolding table
tag_ends strict a y n xs ready rest = ap (λ s. walk strict (follow strict s) rest) (ready.greater 62)

depth_some : (e : Node) → 1 ≤ depth e
depth_some (node n xs es) = omega arith

room_within : (e : Node) (o : Opened) (os : List Opened) → depth e + length (o ∷ os) ≤ 32 → HasRoom (within o os)
room_within e o os deep = let some = depth_some e in omega arith

-- elements, and what stands in one
mutual
  pub over_element : (e : Node) (t : List ℕ) (strict : Bool) (a : Around) (x : Shape) → IsElement e t → depth e + length (open_of a) ≤ 32 → Begins strict a x
      → Along strict a x t (ended (open_of a) e) at_between
  over_element (node n xs es) t strict a x (u, v, is_tag, inl (none, slash), spelled) deep begins =
      let (y, ready, along) = over_tag strict a x n xs u is_tag begins in
      rw spelled (rw slash (rw none (then strict a x u a y (codes "/>") (ended (open_of a) (node n xs no_node)) at_between along (empty_ends strict a y n xs ready))))
  over_element (node n xs es) t strict a x (u, v, is_tag, inr is_rest, spelled) deep begins =
      let (y, ready, along) = over_tag strict a x n xs u is_tag begins in
      let o : Opened = record { name = n; attributes = xs; children = [] } in
      let inner : Along strict (within o (open_of a)) at_between is_rest.inner (within (grown o (list_of es)) (open_of a)) at_between =
      over_content es is_rest.inner strict o (open_of a) is_rest.content (omega arith) in
      let closed : ended (open_of a) (node_of (grown o (list_of es))) ≡ ended (open_of a) (node n xs es) =
      ap (λ ds. ended (open_of a) (node n xs ds)) (nodes-list_of es) in
      rw (spelled, is_rest.spelled)
      (subst (λ (d : Around). Along strict a x (u ++ (62 ∷ (is_rest.inner ++ (60 ∷ (47 ∷ (n ++ (is_rest.gap ++ 62 ∷ []))))))) d at_between) closed
      (then strict a x u a y _ _ at_between along
      (then strict a y (62 ∷ []) (entered a n xs) at_between _ _ at_between (tag_ends strict a y n xs ready)
      (then strict (within o (open_of a)) at_between is_rest.inner (within (grown o (list_of es)) (open_of a)) at_between _ _ at_between inner
      (over_end_tag strict (grown o (list_of es)) (open_of a) is_rest.gap is_tag.is_name is_rest.white)))))

  pub over_content : (es : Nodes) (t : List ℕ) (strict : Bool) (o : Opened) (os : List Opened) → IsContent es t → depths es + length (o ∷ os) ≤ 32
      → Along strict (within o os) at_between t (within (grown o (list_of es)) os) at_between
  over_content no_node t strict o os filler deep =
      subst (λ (c : List Node). Along strict (within o os) at_between t (within (record { name = o.name; attributes = o.attributes; children = c }) os) at_between)
      (sym (append-nil o.children)) (over_filler strict o os t filler)
  over_content (node_then e es) t strict o os (u, v, w, filler, first, others, spelled) deep =
      let deep_first : depth e + length (o ∷ os) ≤ 32 = omega arith in
      let along_first : Along strict (within o os) at_between v (within (grown o (e ∷ [])) os) at_between =
      over_element e v strict (within o os) at_between first deep_first (begins_between strict (within o os) (room_within e o os deep_first)) in
      let along_others : Along strict (within (grown o (e ∷ [])) os) at_between w (within (grown (grown o (e ∷ [])) (list_of es)) os) at_between =
      over_content es w strict (grown o (e ∷ [])) os others (omega arith) in
      rw spelled
      (subst (λ (c : List Node). Along strict (within o os) at_between (u ++ (v ++ w)) (within (record { name = o.name; attributes = o.attributes; children = c }) os) at_between)
      (append_assoc o.children (e ∷ []) (list_of es))
      (then strict (within o os) at_between u (within o os) at_between (v ++ w) (within (grown (grown o (e ∷ [])) (list_of es)) os) at_between (over_filler strict o os u filler)
      (then strict (within o os) at_between v (within (grown o (e ∷ [])) os) at_between w (within (grown (grown o (e ∷ [])) (list_of es)) os) at_between along_first along_others)))
