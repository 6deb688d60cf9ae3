-- The machine goes along attributes, one after another.
use Rattle.std.proofs.Common.{◌≡◌, ℕ, ◌⊎◌, inl, inr, refl, sym, ◌∙◌, ap, subst, Bool, true, false, eqb, cond, not, ◌&&◌, List, [], ◌∷◌, ◌++◌, append_assoc, append-nil, Option, Some, codes, bytes_eq}
use Rattle.std.proofs.lemmas.Bool.{ne_eqb, eq-eqb}
use Rattle.std.proofs.lemmas.Slice.Eq.{bytes_eq-Decides}
use Rattle.std.specs.Str.{str_to_ascii_lowercase}
use Rattle.sd_base.proofs.ByteTestsDecide.{bytes_same}
use Rattle.file_text.specs.declared.tree.Attribute.{Attribute}
use Rattle.file_text.specs.declared.class.Class.{Class}
use Rattle.file_text.specs.declared.class.Class.TheVariants.{White, Control, Less, Greater, Slash, Question, Quote, Ampersand}
use Rattle.file_text.specs.Grammar.{Each, IsWhite, IsName, Item, byte, entity, comment, Entity, less, greater, ampersand, quotation, apostrophe, entity_text, entity_value, items_text, items_value, IsQuoted, IsHead, IsAttribute, AreAttributes, IsNew, AreDistinct, IsUtf8Name}
use Rattle.file_text.specs.inside.AttributeNames.{has_name}
use Rattle.file_text.specs.inside.Machine.{class_of, Around, Shape, at_gap, in_name, in_attribute, at_named, at_equals, in_value, at_valued, Holder, tag, declaration, Step, goes, other_encoding, end_step, value_step, value_end, declares_other, if_new, Spot, follow, walk, table}
use Rattle.file_text.proofs.ClassesMatchGrammar.{plain_class, plain_of}
use Rattle.file_text.proofs.MachineWalks.{Along, stay, then, at_begin, at_name, over_white, over_gap, over_name}
use Rattle.file_text.proofs.DistinctNamesStay.{new_name, distinct_new}

-- what a strict machine asks of a declared attribute
abbrev pub Allowed : Bool → Attribute → Type 0
Allowed true a = a.name ≡ codes "encoding" → IsUtf8Name a.value
Allowed false a = Unit {0}

abbrev pub AllowedIn : Bool → Holder → List Attribute → Type 0
AllowedIn strict (tag name) as' = Unit {0}
AllowedIn strict declaration as' = Each (Allowed strict) as'

-- a shape behind these attributes, where an end or white may follow
pub record Ready (a : Around) (x : Shape) (h : Holder) (as' : List Attribute) : Type 0 where
  pub slash : (b : ℕ) → table a x Slash b ≡ end_step a h as' Slash
  pub greater : (b : ℕ) → table a x Greater b ≡ end_step a h as' Greater
  pub question : (b : ℕ) → table a x Question b ≡ end_step a h as' Question
  pub gap : (b : ℕ) → table a x White b ≡ goes a (at_gap h as')

pub ready_name : (a : Around) (n : List ℕ) → Ready a (in_name n) (tag n) []
unfolding table
ready_name a n = record { slash = λ b. refl; greater = λ b. refl; question = λ b. refl; gap = λ b. refl }

pub ready_gap : (a : Around) (h : Holder) (as' : List Attribute) → Ready a (at_gap h as') h as'
unfolding table
ready_gap a h as' = record { slash = λ b. refl; greater = λ b. refl; question = λ b. refl; gap = λ b. refl }

pub ready_valued : (a : Around) (h : Holder) (as' : List Attribute) → Ready a (at_valued h as') h as'
unfolding table
ready_valued a h as' = record { slash = λ b. refl; greater = λ b. refl; question = λ b. refl; gap = λ b. refl }

-- white behind attributes
pub over_tag_white : (strict : Bool) (a : Around) (x : Shape) (h : Holder) (as' : List Attribute) (w : List ℕ) → Ready a x h as' → IsWhite w
    → (y : Shape) × Ready a y h as' × Along strict a x w a y
unfolding table
over_tag_white strict a x h as' [] ready white = (x, ready, stay strict a x)
over_tag_white strict a x h as' (b ∷ w) ready white =
    (at_gap h as', ready_gap a h as', over_gap strict a x (at_gap h as') (λ c. ap (follow strict) (ready.gap c)) (λ c. refl) (b ∷ w) (white, λ e. cc))

-- the first byte of an attribute's name, and then the whole name
pub over_attribute_name : (strict : Bool) (a : Around) (h : Holder) (as' : List Attribute) (n : List ℕ) → IsName n
    → Along strict a (at_gap h as') n a (in_attribute h as' n)
unfolding table
over_attribute_name strict a h as' [] named rest = absurd named
over_attribute_name strict a h as' (b ∷ bs) named rest =
    ap (λ o. walk strict o (bs ++ rest))
    (at_begin (λ c. follow strict (table a (at_gap h as') c b) ≡ Some (a, in_attribute h as' (b ∷ []))) b named.0 refl refl)
    ∙ over_name strict a (λ m. in_attribute h as' m)
    (λ m c e. at_name (λ k. follow strict (table a (in_attribute h as' m) k c) ≡ Some (a, in_attribute h as' (m ++ c ∷ []))) c e refl refl refl refl)
    (b ∷ []) bs named.1 rest

if_new_new : (n : List ℕ) (as' : List Attribute) (s : Step) → has_name n as' ≡ false → if_new n as' s ≡ s
if_new_new n as' s new = rw new refl

-- white behind the name, and `=`
pub over_equals : (strict : Bool) (a : Around) (h : Holder) (as' : List Attribute) (n : List ℕ) (w : List ℕ) → has_name n as' ≡ false → IsWhite w
    → Along strict a (in_attribute h as' n) (w ++ 61 ∷ []) a (at_equals h as' n)
unfolding table
over_equals strict a h as' n [] new white rest =
    ap (λ s. walk strict (follow strict s) rest) (if_new_new n as' (goes a (at_equals h as' n)) new)
over_equals strict a h as' n (b ∷ w) new white rest =
    let ends : Along strict a (at_named h as' n) (61 ∷ []) a (at_equals h as' n) = λ rest. refl in
    then strict a (in_attribute h as' n) (b ∷ w) a (at_named h as' n) (61 ∷ []) a (at_equals h as' n)
    (over_gap strict a (in_attribute h as' n) (at_named h as' n) (λ c. rw new refl) (λ c. refl) (b ∷ w) (white, λ e. cc)) ends rest

regroup : (before after : List ℕ) (q : ℕ) (rest : List ℕ) (f : List ℕ → Option Spot)
    → f ((before ++ (61 ∷ (after ++ (q ∷ [])))) ++ rest) ≡ f ((before ++ 61 ∷ []) ++ (after ++ (q ∷ rest)))
regroup before after q rest f = simp append_assoc

pub over_quote : (strict : Bool) (a : Around) (h : Holder) (as' : List Attribute) (n : List ℕ) (q : ℕ) → (q ≡ 34) ⊎ (q ≡ 39)
    → Along strict a (at_equals h as' n) (q ∷ []) a (in_value h as' n q [])
unfolding table
over_quote strict a h as' n q (inl e) rest = rw e refl
over_quote strict a h as' n q (inr e) rest = rw e refl

over_end_of_head : (strict : Bool) (a : Around) (h : Holder) (as' : List Attribute) (n : List ℕ) (q : ℕ) (before after : List ℕ) → has_name n as' ≡ false
    → IsWhite before → IsWhite after → (q ≡ 34) ⊎ (q ≡ 39)
    → Along strict a (in_attribute h as' n) (before ++ (61 ∷ (after ++ (q ∷ [])))) a (in_value h as' n q [])
unfolding table
over_end_of_head strict a h as' n q before after new white_before white_after quote rest =
    regroup before after q rest (λ t. walk strict (Some (a, in_attribute h as' n)) t)
    ∙ over_equals strict a h as' n before new white_before (after ++ (q ∷ rest))
    ∙ over_white strict a (at_equals h as' n) (λ c. refl) after white_after (q ∷ rest)
    ∙ over_quote strict a h as' n q quote rest

-- an attribute up to its value
pub over_head : (strict : Bool) (a : Around) (x : Shape) (h : Holder) (as' : List Attribute) (n : List ℕ) (q : ℕ) (t : List ℕ) → Ready a x h as' → has_name n as' ≡ false → IsHead n q t
    → Along strict a x t a (in_value h as' n q [])
unfolding table
over_head strict a x h as' n q t ready new head = rw head.spelled
    (then strict a x head.gap a (at_gap h as') _ a (in_value h as' n q [])
    (over_gap strict a x (at_gap h as') (λ c. ap (follow strict) (ready.gap c)) (λ c. refl) head.gap head.is_gap)
    (then strict a (at_gap h as') n a (in_attribute h as' n) _ a (in_value h as' n q [])
    (over_attribute_name strict a h as' n head.is_name)
    (λ rest. over_end_of_head strict a h as' n q head.before head.after new head.white_before head.white_after head.is_quote rest)))

-- a plain byte of a value that isn't its quote
value_byte : (a : Around) (h : Holder) (as' : List Attribute) (n : List ℕ) (q : ℕ) (v : List ℕ) (c : Class) (b : ℕ) → plain_class c ≡ true → eqb b q ≡ false
    → value_step a h as' n q v c b ≡ goes a (in_value h as' n q (v ++ b ∷ []))
value_byte a h as' n q v Quote b plain other = rw other refl
value_byte a h as' n q v Less b plain other = cc
value_byte a h as' n q v Control b plain other = cc
value_byte a h as' n q v Ampersand b plain other = cc
value_byte a h as' n q v c b plain other = refl

over_entity : (strict : Bool) (a : Around) (h : Holder) (as' : List Attribute) (n : List ℕ) (q : ℕ) (v : List ℕ) (e : Entity)
    → Along strict a (in_value h as' n q v) (entity_text e) a (in_value h as' n q (v ++ entity_value e ∷ []))
unfolding table
over_entity strict a h as' n q v less rest = refl
over_entity strict a h as' n q v greater rest = refl
over_entity strict a h as' n q v ampersand rest = refl
over_entity strict a h as' n q v quotation rest = refl
over_entity strict a h as' n q v apostrophe rest = refl

-- what stands in a value
pub over_value : (strict : Bool) (a : Around) (h : Holder) (as' : List Attribute) (n : List ℕ) (q : ℕ) (v : List ℕ) (items : List Item) → Each (IsQuoted q) items
    → Along strict a (in_value h as' n q v) (items_text items) a (in_value h as' n q (v ++ items_value items))
unfolding table
over_value strict a h as' n q v [] quoted rest = rw append-nil refl
over_value strict a h as' n q v (byte b ∷ items) quoted rest =
    ap (λ s. walk strict (follow strict s) (items_text items ++ rest))
    (value_byte a h as' n q v (class_of b) b (sym (plain_of b) ∙ quoted.0.0) (ne_eqb b q quoted.0.1))
    ∙ over_value strict a h as' n q (v ++ b ∷ []) items quoted.1 rest
    ∙ ap (λ m. walk strict (Some (a, in_value h as' n q m)) rest) (append_assoc v (b ∷ []) (items_value items))
over_value strict a h as' n q v (entity e ∷ items) quoted rest =
    then strict a (in_value h as' n q v) (entity_text e) a (in_value h as' n q (v ++ entity_value e ∷ [])) (items_text items)
    a (in_value h as' n q ((v ++ entity_value e ∷ []) ++ items_value items))
    (over_entity strict a h as' n q v e)
    (over_value strict a h as' n q (v ++ entity_value e ∷ []) items quoted.1) rest
    ∙ ap (λ m. walk strict (Some (a, in_value h as' n q m)) rest) (append_assoc v (entity_value e ∷ []) (items_value items))
over_value strict a h as' n q v (comment body ∷ items) quoted rest = absurd quoted.0

-- a declared attribute that is allowed declares no other encoding
not_other : (x y : Bool) → (x ≡ true → y ≡ true) → (x && not y) ≡ false
not_other false y h = refl
not_other true true h = refl
not_other true false h = sym (h refl)

fits_no_other : (n v : List ℕ) → (n ≡ codes "encoding" → IsUtf8Name v) → declares_other n v ≡ false
fits_no_other n v fits =
    not_other (bytes_eq n (codes "encoding")) (bytes_eq (str_to_ascii_lowercase v) (codes "utf-8"))
    (λ e. (bytes_eq-Decides (str_to_ascii_lowercase v) (codes "utf-8")).1 (fits (bytes_same n (codes "encoding") e)))

-- a value ends
ends_allowed : (strict : Bool) (a : Around) (h : Holder) (as' : List Attribute) (n v : List ℕ) → AllowedIn strict h (record { name = n; value = v } ∷ [])
    → follow strict (value_end a h as' n v) ≡ Some (a, at_valued h (as' ++ record { name = n; value = v } ∷ []))
ends_allowed strict a (tag t) as' n v allowed = refl
ends_allowed false a declaration as' n v allowed = elim (declares_other n v) as (λ d.
    follow false (cond d (other_encoding a (at_valued declaration (as' ++ record { name = n; value = v } ∷ []))) (goes a (at_valued declaration (as' ++ record { name = n; value = v } ∷ []))))
    ≡ Some (a, at_valued declaration (as' ++ record { name = n; value = v } ∷ []))) [ true ↦ refl | false ↦ refl ]
ends_allowed true a declaration as' n v allowed = rw (fits_no_other n v allowed.0) refl

quote_ends : (strict : Bool) (a : Around) (h : Holder) (as' : List Attribute) (n : List ℕ) (q : ℕ) (v : List ℕ) (code : ℕ) → q ≡ code → class_of code ≡ Quote
    → AllowedIn strict h (record { name = n; value = v } ∷ [])
    → follow strict (table a (in_value h as' n q v) (class_of q) q) ≡ Some (a, at_valued h (as' ++ record { name = n; value = v } ∷ []))
unfolding table
quote_ends strict a h as' n q v code e quote allowed =
    let class : class_of q ≡ Quote = ap class_of e ∙ quote in
    let same : eqb q q ≡ true = eq-eqb q q refl in
    rw class (rw same (ends_allowed strict a h as' n v allowed))

pub over_end : (strict : Bool) (a : Around) (h : Holder) (as' : List Attribute) (n : List ℕ) (q : ℕ) (v : List ℕ) → (q ≡ 34) ⊎ (q ≡ 39)
    → AllowedIn strict h (record { name = n; value = v } ∷ [])
    → Along strict a (in_value h as' n q v) (q ∷ []) a (at_valued h (as' ++ record { name = n; value = v } ∷ []))
unfolding table
over_end strict a h as' n q v (inl e) allowed rest = ap (λ o. walk strict o rest) (quote_ends strict a h as' n q v 34 e refl allowed)
over_end strict a h as' n q v (inr e) allowed rest = ap (λ o. walk strict o rest) (quote_ends strict a h as' n q v 39 e refl allowed)

-- an attribute
over_attribute : (strict : Bool) (a : Around) (x : Shape) (h : Holder) (done : List Attribute) (b : Attribute) (t : List ℕ) → Ready a x h done
    → IsNew b.name done → AllowedIn strict h (b ∷ []) → IsAttribute b t → Along strict a x t a (at_valued h (done ++ b ∷ []))
over_attribute strict a x h done b t ready new allowed is = rw is.spelled
    (then strict a x is.head a (in_value h done b.name is.quote []) _ a (at_valued h (done ++ b ∷ []))
    (over_head strict a x h done b.name is.quote is.head ready (new_name b.name done new) is.is_head)
    (then strict a (in_value h done b.name is.quote []) (items_text is.items) a (in_value h done b.name is.quote b.value) (is.quote ∷ []) a (at_valued h (done ++ b ∷ []))
    (subst (λ (v : List ℕ). Along strict a (in_value h done b.name is.quote []) (items_text is.items) a (in_value h done b.name is.quote v)) (sym is.value)
    (over_value strict a h done b.name is.quote [] is.items is.are_quoted))
    (over_end strict a h done b.name is.quote b.value is.is_head.is_quote allowed)))

allowed_first : (strict : Bool) (h : Holder) (b : Attribute) (xs : List Attribute) → AllowedIn strict h (b ∷ xs) → AllowedIn strict h (b ∷ [])
allowed_first strict (tag t) b xs allowed = tt
allowed_first strict declaration b xs allowed = (allowed.0, tt)

allowed_rest : (strict : Bool) (h : Holder) (b : Attribute) (xs : List Attribute) → AllowedIn strict h (b ∷ xs) → AllowedIn strict h xs
allowed_rest strict (tag t) b xs allowed = tt
allowed_rest strict declaration b xs allowed = allowed.1

-- attributes one after another
pub over_attributes : (strict : Bool) (a : Around) (x : Shape) (h : Holder) (done xs : List Attribute) (t : List ℕ) → Ready a x h done
    → AreDistinct (done ++ xs) → AllowedIn strict h xs → AreAttributes xs t → (y : Shape) × Ready a y h (done ++ xs) × Along strict a x t a y
over_attributes strict a x h done [] t ready distinct allowed empty =
    (x, subst (λ (d : List Attribute). Ready a x h d) (sym (append-nil done)) ready, rw empty (stay strict a x))
over_attributes strict a x h done (b ∷ xs) t ready distinct allowed (u, v, first, others, spelled) =
    let regrouped : (done ++ b ∷ []) ++ xs ≡ done ++ b ∷ xs = append_assoc done (b ∷ []) xs in
    let (y, ready_y, along) = over_attributes strict a (at_valued h (done ++ b ∷ [])) h (done ++ b ∷ []) xs v (ready_valued a h (done ++ b ∷ []))
    (subst AreDistinct (sym regrouped) distinct) (allowed_rest strict h b xs allowed) others in (
      y,
      subst (λ (d : List Attribute). Ready a y h d) regrouped ready_y,
      rw spelled (then strict a x u a (at_valued h (done ++ b ∷ [])) v a y
          (over_attribute strict a x h done b u ready (distinct_new done b xs distinct) (allowed_first strict h b xs allowed) first) along),
    )
