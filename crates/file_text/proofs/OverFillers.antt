-- The machine goes along what stands between tags.
use Rattle.std.proofs.Common.{◌≡◌, ℕ, ◌⊎◌, inl, inr, refl, sym, ◌∙◌, ap, subst, Bool, true, List, [], ◌∷◌, ◌++◌, Some, IsTrue, codes}
use Rattle.file_text.specs.declared.class.Class.{Class}
use Rattle.file_text.specs.declared.class.Class.TheVariants.{Control, Hyphen, Less, Greater, Ampersand}
use Rattle.file_text.specs.declared.mode.Comment.TheVariants as part
use Rattle.file_text.specs.Grammar.{Each, is_character, IsBody, BeginsWithEnd, Item, byte, entity, comment, Entity, less, greater, ampersand, quotation, apostrophe, entity_text, item_text, items_text, IsOutside, IsBetween, IsFiller}
use Rattle.file_text.specs.inside.Machine.{class_of, Around, within, Opened, at_between, in_comment, goes, comment_step, between_step, follow, walk, table}
use Rattle.file_text.proofs.ClassesMatchGrammar.{says, character_class, character_of, plain_class, plain_of}
use Rattle.file_text.proofs.MachineWalks.{Along, then, at_white}

-- what a character of a comment leads to
body_step : (a : Around) (c : Class) → character_class c ≡ true → (c ≡ Hyphen) ⊎ (comment_step a part.Body c ≡ goes a (in_comment part.Body))
body_step a Hyphen e = inl refl
body_step a Control e = cc
body_step a c e = inr refl

hyphen_step : (a : Around) (c : Class) → character_class c ≡ true → (c ≡ Hyphen) ⊎ (comment_step a part.Hyphen c ≡ goes a (in_comment part.Body))
hyphen_step a Hyphen e = inl refl
hyphen_step a Control e = cc
hyphen_step a c e = inr refl

hyphens_step : (a : Around) (c : Class) → character_class c ≡ true → (c ≡ Hyphen) ⊎ ((c ≡ Greater) ⊎ (comment_step a part.Hyphens c ≡ goes a (in_comment part.Body)))
hyphens_step a Hyphen e = inl refl
hyphens_step a Greater e = inr (inl refl)
hyphens_step a Control e = cc
hyphens_step a c e = inr (inr refl)

is_hyphen : (b : ℕ) → class_of b ≡ Hyphen → b ≡ 45
is_hyphen b e = says b Hyphen e

character : (b : ℕ) → IsTrue (is_character b) → character_class (class_of b) ≡ true
character b h = sym (character_of b) ∙ h

ends_here : (b : ℕ) (rest : List ℕ) → b ≡ 62 → BeginsWithEnd (45 ∷ 45 ∷ b ∷ rest)
ends_here b rest e = rw e refl

-- the body of a comment, behind no hyphen, one, and more
mutual
  unfolding table

  over_plain : (bs : List ℕ) (strict : Bool) (a : Around) → IsBody bs → Along strict a (in_comment part.Body) (bs ++ codes "-->") a at_between
  over_plain [] strict a h rest = refl
  over_plain (b ∷ bs) strict a h rest = elim (body_step a (class_of b) (character b h.0)) [
    | inl e ↦ ap (λ c. walk strict (follow strict (comment_step a part.Body c)) ((bs ++ codes "-->") ++ rest)) e
        ∙ over_hyphen bs strict a (subst (λ (x : ℕ). IsBody (x ∷ bs)) (is_hyphen b e) h) rest
    | inr e ↦ ap (λ s. walk strict (follow strict s) ((bs ++ codes "-->") ++ rest)) e ∙ over_plain bs strict a h.2 rest
  ]

  over_hyphen : (bs : List ℕ) (strict : Bool) (a : Around) → IsBody (45 ∷ bs) → Along strict a (in_comment part.Hyphen) (bs ++ codes "-->") a at_between
  over_hyphen [] strict a h rest = refl
  over_hyphen (b ∷ bs) strict a h rest = elim (hyphen_step a (class_of b) (character b h.2.0)) [
    | inl e ↦ ap (λ c. walk strict (follow strict (comment_step a part.Hyphen c)) ((bs ++ codes "-->") ++ rest)) e
        ∙ over_hyphens bs strict a (subst (λ (x : ℕ). IsBody (45 ∷ x ∷ bs)) (is_hyphen b e) h) rest
    | inr e ↦ ap (λ s. walk strict (follow strict s) ((bs ++ codes "-->") ++ rest)) e ∙ over_plain bs strict a h.2.2 rest
  ]

  over_hyphens : (bs : List ℕ) (strict : Bool) (a : Around) → IsBody (45 ∷ 45 ∷ bs) → Along strict a (in_comment part.Hyphens) (bs ++ codes "-->") a at_between
  over_hyphens [] strict a h rest = refl
  over_hyphens (b ∷ bs) strict a h rest = elim (hyphens_step a (class_of b) (character b h.2.2.0)) [
    | inl e ↦ ap (λ c. walk strict (follow strict (comment_step a part.Hyphens c)) ((bs ++ codes "-->") ++ rest)) e
        ∙ over_hyphens bs strict a (subst (λ (x : ℕ). IsBody (45 ∷ x ∷ bs)) (is_hyphen b e) h.2) rest
    | inr (inl e) ↦ absurd (h.1 (ends_here b (bs ++ codes "-->") (says b Greater e)))
    | inr (inr e) ↦ ap (λ s. walk strict (follow strict s) ((bs ++ codes "-->") ++ rest)) e ∙ over_plain bs strict a h.2.2.2 rest
  ]

-- a comment from its body on
pub over_body : (strict : Bool) (a : Around) (body : List ℕ) → IsBody body → Along strict a (in_comment part.Body) (body ++ codes "-->") a at_between
over_body strict a body h = over_plain body strict a h

pub over_comment : (strict : Bool) (a : Around) (body : List ℕ) → IsBody body → Along strict a at_between (item_text (comment body)) a at_between
unfolding table
over_comment strict a body h rest = over_plain body strict a h rest

-- a plain character between tags
pub plain_between : (o : Opened) (os : List Opened) (c : Class) → plain_class c ≡ true → between_step (within o os) c ≡ goes (within o os) at_between
plain_between o os Less e = cc
plain_between o os Control e = cc
plain_between o os Ampersand e = cc
plain_between o os c e = refl

over_text_entity : (strict : Bool) (o : Opened) (os : List Opened) (e : Entity) → Along strict (within o os) at_between (entity_text e) (within o os) at_between
unfolding table
over_text_entity strict o os less rest = refl
over_text_entity strict o os greater rest = refl
over_text_entity strict o os ampersand rest = refl
over_text_entity strict o os quotation rest = refl
over_text_entity strict o os apostrophe rest = refl

pub over_items : (strict : Bool) (o : Opened) (os : List Opened) (items : List Item) → Each IsBetween items → Along strict (within o os) at_between (items_text items) (within o os) at_between
unfolding table
over_items strict o os [] h rest = refl
over_items strict o os (byte b ∷ items) h rest =
    ap (λ s. walk strict (follow strict s) (items_text items ++ rest)) (plain_between o os (class_of b) (sym (plain_of b) ∙ h.0)) ∙ over_items strict o os items h.1 rest
over_items strict o os (entity e ∷ items) h rest =
    then strict (within o os) at_between (entity_text e) (within o os) at_between (items_text items) (within o os) at_between
    (over_text_entity strict o os e) (over_items strict o os items h.1) rest
over_items strict o os (comment body ∷ items) h rest =
    then strict (within o os) at_between (item_text (comment body)) (within o os) at_between (items_text items) (within o os) at_between
    (over_comment strict (within o os) body h.0) (over_items strict o os items h.1) rest

pub over_filler : (strict : Bool) (o : Opened) (os : List Opened) (t : List ℕ) → IsFiller t → Along strict (within o os) at_between t (within o os) at_between
over_filler strict o os t (items, each, spelled) = rw spelled (over_items strict o os items each)

-- white and comments outside the root
pub over_outside : (strict : Bool) (a : Around) (items : List Item) → Each IsOutside items → Along strict a at_between (items_text items) a at_between
unfolding table
over_outside strict a [] h rest = refl
over_outside strict a (byte b ∷ items) h rest =
    ap (λ o. walk strict o (items_text items ++ rest)) (at_white (λ c. follow strict (table a at_between c b) ≡ Some (a, at_between)) b h.0 refl) ∙ over_outside strict a items h.1 rest
over_outside strict a (entity e ∷ items) h rest = absurd h.0
over_outside strict a (comment body ∷ items) h rest =
    then strict a at_between (item_text (comment body)) a at_between (items_text items) a at_between
    (over_comment strict a body h.0) (over_outside strict a items h.1) rest
