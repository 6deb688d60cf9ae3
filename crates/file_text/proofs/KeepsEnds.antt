-- One more byte in an entity or behind attributes, and all together: whatever the machine reads is spelled so.
use Rattle.std.proofs.Common.{◌≡◌, ◌≢◌, ℕ, inl, inr, refl, sym, ◌∙◌, ap, subst, Bool, cond, eqb, List, [], ◌∷◌, ◌++◌, append_assoc, append-nil, Option, Some, None, codes, arith}
use Rattle.std.proofs.lemmas.Bool.{cases_Bool, eqb-true}
use Rattle.file_text.specs.declared.tree.Attribute.{Attribute}
use Rattle.file_text.specs.declared.class.Class.{Class}
use Rattle.file_text.specs.declared.class.Class.TheVariants.{Wide, White, Letter, Digit, Hyphen, Greater}
use Rattle.file_text.specs.declared.reference.Reference.{Reference}
use Rattle.file_text.specs.declared.reference.Reference.TheVariants as reference
use Rattle.file_text.specs.declared.reference.Referred.{Referred}
use Rattle.file_text.specs.declared.reference.Referred.TheVariants.{More, Done, Leaves}
use Rattle.file_text.specs.Node.{Node}
use Rattle.file_text.specs.Grammar.{IsWhite, Entity, less, greater, ampersand, quotation, apostrophe, entity_text, entity_value, entity, IsElement}
use Rattle.file_text.specs.inside.Machine.{class_of, Around, prolog, within, epilog, Opened, ended, node_of, Holder, declaration, Shape, at_start, in_mark, at_first, in_declaring, at_between, at_markup, in_comment, in_name, at_gap, in_attribute, at_named, at_equals, in_value, in_value_reference, at_valued, at_slash, at_ending, in_text_reference, in_closing, goes, leaves, referred, value_reference_step, text_reference_step, slash_step, ending_step, closing_step, table, Spot, advance, walk}
use Rattle.file_text.proofs.ClassesMatchGrammar.{Known, known}
use Rattle.file_text.proofs.ReadSoFar.{IsOpen, Reached, reference_text, Tagged, Valued, IsClosing, Has, Holds}
use Rattle.file_text.proofs.TextsTakeOneMore.{white_more, open_item, closes}
use Rattle.file_text.proofs.KeepsText.{After, keeps_start, keeps_mark, keeps_first, keeps_declaring, keeps_between, keeps_markup, keeps_comment}
use Rattle.file_text.proofs.KeepsTags.{empties, value_entity, keeps_name, keeps_gap, keeps_valued, keeps_attribute, keeps_named, keeps_equals, keeps_value}
use Rattle.file_text.proofs.StepsStayTidy.{when_tidy}

-- what a further byte makes of an entity's text
abbrev pub Refers : Reference → ℕ → Referred → Type 0
Refers r b (More s) = reference_text r ++ b ∷ [] ≡ reference_text s
Refers r b (Done c) = (e : Entity) × (reference_text r ++ b ∷ [] ≡ entity_text e) × (c ≡ entity_value e)
Refers r b Leaves = Unit {0}

pub when_byte : (P : Referred → Type 0) (b k : ℕ) (s u : Referred) → (b ≡ k → P s) → P u → P (cond (eqb b k) s u)
when_byte P b k s u p q = elim (cases_Bool (eqb b k)) [ inl e ↦ rw e (p (eqb-true b k e)) | inr e ↦ rw e q ]

pub refers : (r : Reference) (b : ℕ) → Refers r b (referred r b)
refers reference.Ampersand b =
    when_byte (λ s. Refers reference.Ampersand b s) b 108 _ _ (λ e. rw e refl)
    (when_byte (λ s. Refers reference.Ampersand b s) b 103 _ _ (λ e. rw e refl)
    (when_byte (λ s. Refers reference.Ampersand b s) b 97 _ _ (λ e. rw e refl)
    (when_byte (λ s. Refers reference.Ampersand b s) b 113 _ _ (λ e. rw e refl) tt)))
refers reference.L b = when_byte (λ s. Refers reference.L b s) b 116 _ _ (λ e. rw e refl) tt
refers reference.G b = when_byte (λ s. Refers reference.G b s) b 116 _ _ (λ e. rw e refl) tt
refers reference.A b =
    when_byte (λ s. Refers reference.A b s) b 109 _ _ (λ e. rw e refl) (when_byte (λ s. Refers reference.A b s) b 112 _ _ (λ e. rw e refl) tt)
refers reference.Am b = when_byte (λ s. Refers reference.Am b s) b 112 _ _ (λ e. rw e refl) tt
refers reference.Ap b = when_byte (λ s. Refers reference.Ap b s) b 111 _ _ (λ e. rw e refl) tt
refers reference.Apo b = when_byte (λ s. Refers reference.Apo b s) b 115 _ _ (λ e. rw e refl) tt
refers reference.Q b = when_byte (λ s. Refers reference.Q b s) b 117 _ _ (λ e. rw e refl) tt
refers reference.Qu b = when_byte (λ s. Refers reference.Qu b s) b 111 _ _ (λ e. rw e refl) tt
refers reference.Quo b = when_byte (λ s. Refers reference.Quo b s) b 116 _ _ (λ e. rw e refl) tt
refers reference.Lt b = when_byte (λ s. Refers reference.Lt b s) b 59 _ _ (λ e. (less, rw e refl, refl)) tt
refers reference.Gt b = when_byte (λ s. Refers reference.Gt b s) b 59 _ _ (λ e. (greater, rw e refl, refl)) tt
refers reference.Amp b = when_byte (λ s. Refers reference.Amp b s) b 59 _ _ (λ e. (ampersand, rw e refl, refl)) tt
refers reference.Apos b = when_byte (λ s. Refers reference.Apos b s) b 59 _ _ (λ e. (apostrophe, rw e refl, refl)) tt
refers reference.Quot b = when_byte (λ s. Refers reference.Quot b s) b 59 _ _ (λ e. (quotation, rw e refl, refl)) tt

keeps_value_reference : (strict : Bool) (a : Around) (h : Holder) (xs : List Attribute) (n : List ℕ) (q : ℕ) (v : List ℕ) (r : Reference) (t : List ℕ) (b : ℕ) (s : Referred)
    → Refers r b s → Has strict a (in_value_reference h xs n q v r) t → After strict (value_reference_step a h xs n q v s) (t ++ b ∷ [])
keeps_value_reference strict a h xs n q v r t b (More m) is (u, has, spelled) = (u, has, rw spelled (append_assoc u (reference_text r) (b ∷ []) ∙ ap (λ w. u ++ w) is))
keeps_value_reference strict a h xs n q v r t b (Done c) (e, is, value) (u, has, spelled) =
    let whole : u ++ entity_text e ≡ t ++ b ∷ [] = rw spelled (sym (append_assoc u (reference_text r) (b ∷ []) ∙ ap (λ w. u ++ w) is)) in
    rw value (subst (λ (w : List ℕ). Valued strict a h xs n q (v ++ entity_value e ∷ []) w) whole (value_entity strict a h xs n q v u e has))
keeps_value_reference strict a h xs n q v r t b Leaves is has = tt

keeps_text_reference : (strict : Bool) (a : Around) (r : Reference) (t : List ℕ) (b : ℕ) (s : Referred)
    → Refers r b s → Has strict a (in_text_reference r) t → After strict (text_reference_step a s) (t ++ b ∷ [])
keeps_text_reference strict a r t b (More m) is (u, reached, inside, spelled) =
    (u, reached, inside, rw spelled (append_assoc u (reference_text r) (b ∷ []) ∙ ap (λ w. u ++ w) is))
keeps_text_reference strict prolog r t b (Done c) is (u, reached, inside, spelled) = absurd inside
keeps_text_reference strict (within o os) r t b (Done c) (e, is, value) (u, reached, inside, spelled) =
    let whole : u ++ entity_text e ≡ t ++ b ∷ [] = rw spelled (sym (append_assoc u (reference_text r) (b ∷ []) ∙ ap (λ w. u ++ w) is)) in
    subst (λ (w : List ℕ). IsOpen strict (o ∷ os) w) whole (open_item strict o os u (entity e) reached tt)
keeps_text_reference strict (epilog x) r t b (Done c) is (u, reached, inside, spelled) = absurd inside
keeps_text_reference strict a r t b Leaves is has = tt

keeps_slash : (strict : Bool) (a : Around) (n : List ℕ) (xs : List Attribute) (t : List ℕ) (c : Class) (b : ℕ) → Known c b → Has strict a (at_slash n xs) t
    → After strict (slash_step a n xs c) (t ++ b ∷ [])
keeps_slash strict a n xs t Greater b k (u, w, tagged, white, spelled) = rw k.code (empties strict a n xs u w t tagged white spelled)
keeps_slash strict a n xs t c b k has = tt

-- a declaration ends
declares : (strict : Bool) (xs : List Attribute) (u w t : List ℕ) → Tagged strict prolog declaration xs u → xs ≢ [] → IsWhite w → t ≡ u ++ (w ++ codes "?")
    → Reached strict prolog (t ++ 62 ∷ [])
declares strict xs u w t tagged some white spelled =
    let (same, (start, is_start, front)) = tagged.is_front in (
      xs,
      record {
        start = start;
        declaration = codes "<?xml" ++ (tagged.middle ++ (w ++ codes "?>"));
        misc = [];
        is_start = is_start;
        is_declaration = inr (record {
          middle = tagged.middle;
          gap = w;
          some = some;
          are_attributes = tagged.are_attributes;
          are_distinct = tagged.are_distinct;
          white = white;
          spelled = refl;
        });
        is_misc = ([], tt, refl);
        spelled = rw (spelled, tagged.spelled, front) (simp (append_assoc, append-nil));
      },
      tagged.allowed,
    )

not_within : (o : Opened) (os : List Opened) → within o os ≡ prolog → ⊥
not_within o os e = cc

not_epilog : (x : Node) → epilog x ≡ prolog → ⊥
not_epilog x e = cc

keeps_ending : (strict : Bool) (a : Around) (t : List ℕ) (c : Class) (b : ℕ) → Known c b → Has strict a at_ending t → After strict (ending_step a c) (t ++ b ∷ [])
keeps_ending strict prolog t Greater b k (xs, (u, w, tagged, some, white, spelled)) = rw k.code (declares strict xs u w t tagged some white spelled)
keeps_ending strict (within o os) t Greater b k (xs, (u, w, tagged, some, white, spelled)) = absurd (not_within o os tagged.is_front.0)
keeps_ending strict (epilog e) t Greater b k (xs, (u, w, tagged, some, white, spelled)) = absurd (not_epilog e tagged.is_front.0)
keeps_ending strict a t c b k has = tt

-- an end tag ends
leaves_element : (strict : Bool) (o : Opened) (os : List Opened) (u p w t : List ℕ) → IsOpen strict (o ∷ os) u → p ++ [] ≡ o.name → IsWhite w → t ≡ u ++ (60 ∷ (47 ∷ (p ++ w)))
    → Reached strict (ended os (node_of o)) (t ++ 62 ∷ [])
leaves_element strict o os u p w t (front, opening, before, (tag_text, inner, is_tag, content, opens), spelled_before, deep) same white spelled =
    let name : p ≡ o.name = sym (append-nil p) ∙ same in
    let element : IsElement (node_of o) (tag_text ++ (62 ∷ (inner ++ (60 ∷ (47 ∷ (o.name ++ (w ++ 62 ∷ []))))))) = (
      tag_text,
      62 ∷ (inner ++ (60 ∷ (47 ∷ (o.name ++ (w ++ 62 ∷ []))))),
      is_tag,
      inr (record { inner = inner; gap = w; content = content; white = white; spelled = refl }),
      refl,
    ) in
    subst (λ (s : List ℕ). Reached strict (ended os (node_of o)) s) (sym (rw (spelled, spelled_before, opens, name) (simp append_assoc)))
    (closes strict os (node_of o) front (tag_text ++ (62 ∷ (inner ++ (60 ∷ (47 ∷ (o.name ++ (w ++ 62 ∷ []))))))) before element (omega arith))

matches : (strict : Bool) (o : Opened) (os : List Opened) (x : ℕ) (left t : List ℕ) (b : ℕ) → IsClosing strict (within o os) (x ∷ left) t
    → After strict (cond (eqb x b) (goes (within o os) (in_closing left)) leaves) (t ++ b ∷ [])
matches strict o os x left t b (u, p, w, before, same, white, inl none, spelled) =
    when_tidy (λ s. After strict s (t ++ b ∷ [])) x b (goes (within o os) (in_closing left)) leaves
    (λ e. (u, p ++ x ∷ [], [], before, append_assoc p (x ∷ []) left ∙ same, tt, inl refl, rw (spelled, none, ← e) (simp append_assoc))) tt
matches strict o os x left t b (u, p, w, before, same, white, inr none, spelled) = cc

keeps_closing : (strict : Bool) (a : Around) (left t : List ℕ) (c : Class) (b : ℕ) → Known c b → Has strict a (in_closing left) t → After strict (closing_step a left c b) (t ++ b ∷ [])
keeps_closing strict prolog left t c b k has = absurd has
keeps_closing strict (epilog e) left t c b k has = absurd has
keeps_closing strict (within o os) [] t White b k (u, p, w, before, same, white, place, spelled) =
    (u, p, w ++ b ∷ [], before, same, white_more w b white k.white, inr refl, rw spelled (simp append_assoc))
keeps_closing strict (within o os) [] t Greater b k (u, p, w, before, same, white, place, spelled) = rw k.code (leaves_element strict o os u p w t before same white spelled)
keeps_closing strict (within o os) [] t c b k has = tt
keeps_closing strict (within o os) (x ∷ left) t Letter b k has = matches strict o os x left t b has
keeps_closing strict (within o os) (x ∷ left) t Digit b k has = matches strict o os x left t b has
keeps_closing strict (within o os) (x ∷ left) t Hyphen b k has = matches strict o os x left t b has
keeps_closing strict (within o os) (x ∷ left) t Wide b k has = matches strict o os x left t b has
keeps_closing strict (within o os) (x ∷ left) t c b k has = tt

-- one more byte
pub keeps : (strict : Bool) (a : Around) (x : Shape) (t : List ℕ) (b : ℕ) → Has strict a x t → After strict (table a x (class_of b) b) (t ++ b ∷ [])
unfolding table
keeps strict a at_start t b has = keeps_start strict a t (class_of b) b (known b) has
keeps strict a (in_mark m) t b has = keeps_mark strict a m t (class_of b) b (known b) has
keeps strict a at_first t b has = keeps_first strict a t (class_of b) b (known b) has
keeps strict a (in_declaring d) t b has = keeps_declaring strict a d t (class_of b) b (known b) has
keeps strict a at_between t b has = keeps_between strict a t (class_of b) b (known b) has
keeps strict a at_markup t b has = keeps_markup strict a t (class_of b) b (known b) has
keeps strict a (in_comment k) t b has = keeps_comment strict a k t (class_of b) b (known b) has
keeps strict a (in_name n) t b has = keeps_name strict a n t (class_of b) b (known b) has
keeps strict a (at_gap h xs) t b has = keeps_gap strict a h xs t (class_of b) b (known b) has
keeps strict a (in_attribute h xs n) t b has = keeps_attribute strict a h xs n t (class_of b) b (known b) has
keeps strict a (at_named h xs n) t b has = keeps_named strict a h xs n t (class_of b) b (known b) has
keeps strict a (at_equals h xs n) t b has = keeps_equals strict a h xs n t (class_of b) b (known b) has
keeps strict a (in_value h xs n q v) t b has = keeps_value strict a h xs n q v t (class_of b) b (known b) has
keeps strict a (in_value_reference h xs n q v r) t b has = keeps_value_reference strict a h xs n q v r t b (referred r b) (refers r b) has
keeps strict a (at_valued h xs) t b has = keeps_valued strict a h xs t (class_of b) b (known b) has
keeps strict a (at_slash n xs) t b has = keeps_slash strict a n xs t (class_of b) b (known b) has
keeps strict a at_ending t b has = keeps_ending strict a t (class_of b) b (known b) has
keeps strict a (in_text_reference r) t b has = keeps_text_reference strict a r t b (referred r b) (refers r b) has
keeps strict a (in_closing left) t b has = keeps_closing strict a left t (class_of b) b (known b) has

-- whatever is read
holds_from : (strict : Bool) (o : Option Spot) (front t : List ℕ) → Holds strict o front → Holds strict (walk strict o t) (front ++ t)
holds_from strict None front t has = tt
holds_from strict (Some s) front [] has = rw append-nil has
holds_from strict (Some s) front (b ∷ t) has =
    subst (λ (u : List ℕ). Holds strict (walk strict (advance strict s b) t) u) (append_assoc front (b ∷ []) t)
    (holds_from strict (advance strict s b) (front ++ b ∷ []) t (keeps strict s.0 s.1 front b has))

pub holds : (strict : Bool) (t : List ℕ) → Holds strict (walk strict (Some (prolog, at_start)) t) t
holds strict t = holds_from strict (Some (prolog, at_start)) [] t (refl, refl)
