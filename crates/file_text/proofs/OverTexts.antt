-- The machine goes along whole texts: what is spelled is read.
use Rattle.std.proofs.Common.{◌≡◌, ◌≢◌, ℕ, ◌⊎◌, inl, inr, refl, ◌∙◌, ap, Bool, false, List, [], ◌∷◌, ◌++◌, append-nil, Some, IsTrue, codes, arith}
use Rattle.file_text.specs.declared.tree.Attribute.{Attribute}
use Rattle.file_text.specs.declared.class.Class.TheVariants.{White}
use Rattle.file_text.specs.declared.mode.Mark.TheVariants as mark_read
use Rattle.file_text.specs.declared.mode.Declaring.TheVariants as declaring
use Rattle.file_text.specs.declared.mode.Comment.TheVariants as part
use Rattle.file_text.specs.Node.{Node}
use Rattle.file_text.specs.Grammar.{Each, is_name_start, Item, byte, entity, comment, item_text, items_text, IsOutside, IsMisc, mark, IsDeclaration, IsProlog, Spells}
use Rattle.file_text.specs.inside.Machine.{class_of, Around, prolog, epilog, Shape, at_start, in_mark, at_first, in_declaring, at_between, in_comment, in_name, declaration, goes, follow, walk, table}
use Rattle.file_text.proofs.MachineWalks.{Along, stay, then, at_white, at_begin}
use Rattle.file_text.proofs.OverTags.{Allowed, Ready, over_tag_white, over_attributes}
use Rattle.file_text.proofs.OverFillers.{over_body, over_outside}
use Rattle.file_text.proofs.OverElements.{Begins, begins_between, over_element}

-- the declaration
pub ready_declaring : (a : Around) → Ready a (in_declaring declaring.Xml) declaration []
unfolding table
ready_declaring a = record { slash = λ b. refl; greater = λ b. refl; question = λ b. refl; gap = λ b. refl }

pub declaration_ends : (strict : Bool) (a : Around) (y : Shape) (xs : List Attribute) → xs ≢ [] → Ready a y declaration xs → Along strict a y (codes "?>") a at_between
unfolding table
declaration_ends strict a y [] some ready rest = absurd (some refl)
declaration_ends strict a y (b ∷ xs) some ready rest = ap (λ s. walk strict (follow strict s) (62 ∷ rest)) (ready.question 63)

-- a declaration up to its attributes
abbrev pub Declares : Bool → Shape → Type 0
Declares strict x = Along strict prolog x (codes "<?xml") prolog (in_declaring declaring.Xml)

-- the attributes of a declaration
pub over_declared : (strict : Bool) (x : Shape) (xs : List Attribute) (t : List ℕ) → Declares strict x → IsDeclaration xs t → Each (Allowed strict) xs
    → Along strict prolog x t prolog at_between
over_declared strict x xs t declares is allowed =
    let (y, ready_y, along_y) = over_attributes strict prolog (in_declaring declaring.Xml) declaration [] xs is.middle (ready_declaring prolog) is.are_distinct allowed is.are_attributes in
    let (z, ready_z, along_z) = over_tag_white strict prolog y declaration xs is.gap ready_y is.white in
    rw is.spelled
    (then strict prolog x (codes "<?xml") prolog (in_declaring declaring.Xml) _ prolog at_between declares
    (then strict prolog (in_declaring declaring.Xml) is.middle prolog y _ prolog at_between along_y
    (then strict prolog y is.gap prolog z (codes "?>") prolog at_between along_z (declaration_ends strict prolog z xs is.some ready_z))))

-- a shape before the root
pub record Outer (strict : Bool) (x : Shape) : Type 0 where
  pub white : (b : ℕ) → table prolog x White b ≡ goes prolog at_between
  pub begins : Begins strict prolog x
  pub bang : Along strict prolog x (60 ∷ 33 ∷ []) prolog (in_comment part.Bang)

pub outer_between : (strict : Bool) → Outer strict at_between
unfolding table
outer_between strict = record { white = λ b. refl; begins = begins_between strict prolog tt; bang = λ rest. refl }

begins_first : (strict : Bool) (b : ℕ) → IsTrue (is_name_start b) → follow strict (table prolog at_first (class_of b) b) ≡ Some (prolog, in_name (b ∷ []))
unfolding table
begins_first strict b start = at_begin (λ c. follow strict (table prolog at_first c b) ≡ Some (prolog, in_name (b ∷ []))) b start refl refl

pub outer_start : (strict : Bool) → Outer strict at_start
unfolding table
outer_start strict = record {
  white = λ b. refl;
  begins = λ b start rest. ap (λ o. walk strict o rest) (begins_first strict b start);
  bang = λ rest. refl;
}

pub outer_mark : (strict : Bool) → Outer strict (in_mark mark_read.Whole)
unfolding table
outer_mark strict = record {
  white = λ b. refl;
  begins = λ b start rest. ap (λ o. walk strict o rest) (begins_first strict b start);
  bang = λ rest. refl;
}

-- white and comments before the root
over_first_misc : (strict : Bool) (x : Shape) (items : List Item) → Each IsOutside items → Outer strict x
    → (y : Shape) × Outer strict y × Along strict prolog x (items_text items) prolog y
unfolding table
over_first_misc strict x [] h outer = (x, outer, stay strict prolog x)
over_first_misc strict x (byte b ∷ items) h outer = (
  at_between,
  outer_between strict,
  λ rest. ap (λ o. walk strict o (items_text items ++ rest)) (at_white (λ c. follow strict (table prolog x c b) ≡ Some (prolog, at_between)) b h.0 (ap (follow strict) (outer.white b)))
      ∙ over_outside strict prolog items h.1 rest,
)
over_first_misc strict x (entity e ∷ items) h outer = absurd h.0
over_first_misc strict x (comment body ∷ items) h outer = (
  at_between,
  outer_between strict,
  then strict prolog x (item_text (comment body)) prolog at_between (items_text items) prolog at_between
      (λ rest. outer.bang (45 ∷ 45 ∷ ((body ++ codes "-->") ++ rest)) ∙ over_body strict prolog body h.0 rest)
      (over_outside strict prolog items h.1),
)

-- the start of a text
pub over_start : (strict : Bool) (t : List ℕ) → (t ≡ []) ⊎ (t ≡ mark) → (y : Shape) × Outer strict y × Declares strict y × Along strict prolog at_start t prolog y
unfolding table
over_start strict t (inl none) = (at_start, outer_start strict, (λ rest. refl), rw none (stay strict prolog at_start))
over_start strict t (inr marked) = (in_mark mark_read.Whole, outer_mark strict, (λ rest. refl), rw marked (λ rest. refl))

over_declaration : (strict : Bool) (x : Shape) (xs : List Attribute) (t : List ℕ) → Outer strict x → Declares strict x → ((xs ≡ []) × (t ≡ [])) ⊎ IsDeclaration xs t
    → Each (Allowed strict) xs → (y : Shape) × Outer strict y × Along strict prolog x t prolog y
over_declaration strict x xs t outer declares (inl (_, none)) allowed = (x, outer, rw none (stay strict prolog x))
over_declaration strict x xs t outer declares (inr is) allowed = (at_between, outer_between strict, over_declared strict x xs t declares is allowed)

over_prolog : (strict : Bool) (xs : List Attribute) (t : List ℕ) → IsProlog xs t → Each (Allowed strict) xs
    → (y : Shape) × Outer strict y × Along strict prolog at_start t prolog y
over_prolog strict xs t is allowed =
    let (u, outer_u, declares_u, along_u) = over_start strict is.start is.is_start in
    let (v, outer_v, along_v) = over_declaration strict u xs is.declaration outer_u declares_u is.is_declaration allowed in
    let (items, each, spelled) = is.is_misc in
    let (w, outer_w, along_w) = over_first_misc strict v items each outer_v in (
      w,
      outer_w,
      rw (is.spelled, spelled)
          (then strict prolog at_start is.start prolog u _ prolog w along_u
          (then strict prolog u is.declaration prolog v (items_text items) prolog w along_v along_w)),
    )

over_misc : (strict : Bool) (a : Around) (t : List ℕ) → IsMisc t → Along strict a at_between t a at_between
over_misc strict a t (items, each, spelled) = rw spelled (over_outside strict a items each)

-- what is spelled is read
pub reads : (strict : Bool) (xs : List Attribute) (e : Node) (t : List ℕ) → Spells xs e t → Each (Allowed strict) xs
    → walk strict (Some (prolog, at_start)) t ≡ Some (epilog e, at_between)
reads strict xs e t is allowed =
    let (y, outer_y, along_y) = over_prolog strict xs is.prolog is.is_prolog allowed in
    let whole : Along strict prolog at_start t (epilog e) at_between =
    rw is.spelled
    (then strict prolog at_start is.prolog prolog y _ (epilog e) at_between along_y
    (then strict prolog y is.root (epilog e) at_between is.misc (epilog e) at_between
    (over_element e is.root strict prolog y is.is_root (omega (arith, is.shallow)) outer_y.begins)
    (over_misc strict (epilog e) is.misc is.is_misc))) in
    rw append-nil at (whole [])

-- what a text declares is allowed
pub all_allowed : (xs : List Attribute) → Each (Allowed false) xs
all_allowed [] = tt
all_allowed (x ∷ xs) = (tt, all_allowed xs)
