-- A run of characters leaves the machine where it stands, but for a value, which grows by them, as a name does, and for an end
-- tag, which has so much less to come.
use Rattle.std.proofs.Common.{◌≡◌, ℕ, ◌+◌, ◌<◌, ◌≤◌, Bool, true, false, List, [], ◌∷◌, ◌++◌, length, take, drop, inl, inr, Option, Some, refl, sym, ap, ◌∙◌, subst, arith, append_assoc, append-nil, eq-eqb}
use Rattle.std.specs.Prelude.{IsTrue, ◌==◌}
use Rattle.std.proofs.Math.Seq.{take-add}
use Rattle.std.proofs.lemmas.Bool.Decides.{nat_tests}
use Rattle.std.proofs.lemmas.List.{take-take, take-append-drop, drop-drop, length-take}
use Rattle.file_text.specs.declared.tree.Attribute.{Attribute}
use Rattle.file_text.specs.declared.class.Class.{Class}
use Rattle.file_text.specs.declared.class.Class.TheVariants.{White, Control, Less, Quote, Ampersand}
use Rattle.file_text.specs.declared.mode.Comment.{Comment}
use Rattle.file_text.specs.declared.due.Due.TheVariants.{Nothing}
use Rattle.file_text.specs.declared.reference.Reference.{Reference}
use Rattle.file_text.specs.declared.reference.Referred.TheVariants.{More, Done}
use Rattle.file_text.specs.declared.characters.Run.TheVariants as run_of
use Rattle.file_text.specs.declared.scanner.Frame.{Frame}
use Rattle.file_text.specs.declared.scanner.Scanner.{Scanner}
use Rattle.file_text.specs.Grammar.{Each, is_white, is_plain, is_name_byte}
use Rattle.file_text.specs.inside.Machine.{class_of, Around, within, Opened, Holder, Shape, at_between, in_comment, in_name, at_gap, in_attribute, at_named, at_equals, in_value, in_value_reference, in_text_reference, in_closing, Step, goes, name_step, attribute_step, value_step, match_step, table, follow, walk, State, run, start, IsDue}
use Rattle.file_text.specs.inside.Runs.{takes, IsRun, IsPartOfBody, IsPartOfEntity}
use Rattle.file_text.specs.inside.Seen.{opened_of, stack_on, around_in, around_of}
use Rattle.file_text.proofs.ClassesMatchGrammar.{plain_class, name_class, Known, known, by_name}
use Rattle.file_text.proofs.MachineWalks.{at_white}
use Rattle.file_text.proofs.TidyRuns.{run_both}
use Rattle.file_text.proofs.MachineReadsExactly.{run-append}
use Rattle.file_text.proofs.OverFillers.{plain_between}

-- ---- what the bytes of a run do

-- a byte of a value is plain, and not its quote
in-value-plain : (quote b : ℕ) → takes (run_of.Value quote) b ≡ true → is_plain b ≡ true
in-value-plain quote b took = grind (arith, nat_tests)

no-quote : (quote b : ℕ) → takes (run_of.Value quote) b ≡ true → b < 61 → (b == quote) ≡ false
no-quote quote b took low = grind (arith, nat_tests)

quote-low : (b : ℕ) → Known Quote b → b < 61
quote-low b byte = elim byte.code [ inl double ↦ omega (arith, double) | inr single ↦ omega (arith, single) ]

value-grows : (a : Around) (h : Holder) (xs : List Attribute) (name : List ℕ) (quote : ℕ) (value : List ℕ) (c : Class) (b : ℕ) → Known c b → takes (run_of.Value quote) b ≡ true → plain_class c ≡ true →
    value_step a h xs name quote value c b ≡ goes a (in_value h xs name quote (value ++ b ∷ []))
value-grows a h xs name quote value Quote b byte took plain = rw (no-quote quote b took (quote-low b byte)) refl
value-grows a h xs name quote value Control b byte took plain = cc
value-grows a h xs name quote value Less b byte took plain = cc
value-grows a h xs name quote value Ampersand b byte took plain = cc
value-grows a h xs name quote value c b byte took plain = refl

-- what the name in an end tag still needs, without its first byte
matches : (a : Around) (x : ℕ) (rest : List ℕ) (c : Class) → name_class c ≡ true → match_step a x rest c x ≡ goes a (in_closing rest)
matches a x rest c named =
    let same = eq-eqb x x refl in
    by_name (λ (c : Class). match_step a x rest c x ≡ goes a (in_closing rest)) (rw same refl) (rw same refl) (rw same refl) (rw same refl) c named

-- ---- along bytes that pass a test

-- a shape that they leave as it is
module _ (p : ℕ → Bool) (a : Around) (x : Shape) (stays : (b : ℕ) → p b ≡ true → table a x (class_of b) b ≡ goes a x) where
  passes : (t : List ℕ) → Each (λ b. IsTrue (p b)) t → walk true (Some (a, x)) t ≡ Some (a, x)
  passes [] all = refl
  passes (b ∷ t) all = ap (λ (s : Step). walk true (follow true s) t) (stays b all.0) ∙ passes t all.1

-- a shape that grows by them
module _ (p : ℕ → Bool) (a : Around) (shape : List ℕ → Shape) (step : (read : List ℕ) (b : ℕ) → p b ≡ true → table a (shape read) (class_of b) b ≡ goes a (shape (read ++ b ∷ []))) where
  grows : (t read : List ℕ) → Each (λ b. IsTrue (p b)) t → walk true (Some (a, shape read)) t ≡ Some (a, shape (read ++ t))
  grows [] read all = ap (λ (v : List ℕ). Some (a, shape v)) (sym (append-nil read))
  grows (b ∷ t) read all =
      ap (λ (s : Step). walk true (follow true s) t) (step read b all.0) ∙ grows t (read ++ b ∷ []) all.1
      ∙ ap (λ (v : List ℕ). Some (a, shape v)) (append_assoc read (b ∷ []) t)

closes : (a : Around) (t left : List ℕ) → Each (λ b. IsTrue (is_name_byte b)) t → walk true (Some (a, in_closing (t ++ left))) t ≡ Some (a, in_closing left)
unfolding table
closes a [] left all = refl
closes a (b ∷ t) left all =
    ap (λ (s : Step). walk true (follow true s) t) (matches a b (t ++ left) (class_of b) (sym (known b).named ∙ all.0)) ∙ closes a t left all.1

at : Around → Shape → State
at a x = record { due = Nothing; spot = (a, x) }

-- whole characters leave nothing due
whole : (a : Around) (x y : Shape) (t : List ℕ) → IsDue t Nothing → walk true (Some (a, x)) t ≡ Some (a, y) → run true (Some (at a x)) t ≡ Some (at a y)
unfolding at
whole a x y t due walks = run_both true (Some Nothing) (Some (a, x)) t ∙ rw (due, walks) refl

-- ---- the run in front of some bytes

pub in-body : (a : Around) (from to : Comment) (bytes : List ℕ) (n : ℕ) → IsPartOfBody from to bytes n →
    run true (Some (record { due = Nothing; spot = (a, in_comment from) })) (take n bytes) ≡ Some (record { due = Nothing; spot = (a, in_comment to) })
unfolding at
in-body a from to bytes n is = whole a (in_comment from) (in_comment to) (take n bytes) is.whole (is.leads a)

pub in-text : (a : Around) (o : Opened) (os : List Opened) (bytes : List ℕ) (n : ℕ) → a ≡ within o os → IsRun run_of.Text bytes n →
    run true (Some (record { due = Nothing; spot = (a, at_between) })) (take n bytes) ≡ Some (record { due = Nothing; spot = (a, at_between) })
unfolding at table
in-text a o os bytes n there is =
    subst (λ (x : Around). run true (Some (at x at_between)) (take n bytes) ≡ Some (at x at_between)) (sym there)
    (whole (within o os) at_between at_between (take n bytes) is.whole (passes is_plain (within o os) at_between (λ b plain. plain_between o os (class_of b) (sym (known b).plain ∙ plain)) (take n bytes) is.taken))

-- white in a shape that it leaves as it is
abbrev pub StaysAtWhite : Shape → Type 0
StaysAtWhite x = (a : Around) (b : ℕ) → table a x White b ≡ goes a x

pub in-white : (a : Around) (x : Shape) (bytes : List ℕ) (n : ℕ) → StaysAtWhite x → IsRun run_of.White bytes n →
    run true (Some (record { due = Nothing; spot = (a, x) })) (take n bytes) ≡ Some (record { due = Nothing; spot = (a, x) })
unfolding at
in-white a x bytes n stays is =
    whole a x x (take n bytes) is.whole (passes is_white a x (λ b white. at_white (λ (c : Class). table a x c b ≡ goes a x) b white (stays a b)) (take n bytes) is.taken)

pub white-between : StaysAtWhite at_between
unfolding table
white-between a b = refl

pub white-gap : (h : Holder) (xs : List Attribute) → StaysAtWhite (at_gap h xs)
unfolding table
white-gap h xs a b = refl

pub white-named : (h : Holder) (xs : List Attribute) (name : List ℕ) → StaysAtWhite (at_named h xs name)
unfolding table
white-named h xs name a b = refl

pub white-equals : (h : Holder) (xs : List Attribute) (name : List ℕ) → StaysAtWhite (at_equals h xs name)
unfolding table
white-equals h xs name a b = refl

pub white-closing : (left : List ℕ) → left ≡ [] → StaysAtWhite (in_closing left)
unfolding table
white-closing left none a b = rw none refl

grown : (p : ℕ → Bool) (a : Around) (shape : List ℕ → Shape) → ((read : List ℕ) (b : ℕ) → p b ≡ true → table a (shape read) (class_of b) b ≡ goes a (shape (read ++ b ∷ []))) →
    (read more t : List ℕ) → IsDue t Nothing → Each (λ b. IsTrue (p b)) t → more ≡ read ++ t → run true (Some (at a (shape read))) t ≡ Some (at a (shape more))
grown p a shape step read more t due all so = whole a (shape read) (shape more) t due (grows p a shape step t read all ∙ ap (λ (v : List ℕ). Some (a, shape v)) (sym so))

pub in-values : (a : Around) (h : Holder) (xs : List Attribute) (name : List ℕ) (quote : ℕ) (value more bytes : List ℕ) (n : ℕ) → IsRun (run_of.Value quote) bytes n → more ≡ value ++ take n bytes →
    run true (Some (record { due = Nothing; spot = (a, in_value h xs name quote value) })) (take n bytes) ≡ Some (record { due = Nothing; spot = (a, in_value h xs name quote more) })
unfolding at table
in-values a h xs name quote value more bytes n is so =
    grown (takes (run_of.Value quote)) a (in_value h xs name quote) (λ read b took. value-grows a h xs name quote read (class_of b) b (known b) took (sym (known b).plain ∙ in-value-plain quote b took))
    value more (take n bytes) is.whole is.taken so

pub in-names : (a : Around) (name more bytes : List ℕ) (n : ℕ) → IsRun run_of.Name bytes n → more ≡ name ++ take n bytes →
    run true (Some (record { due = Nothing; spot = (a, in_name name) })) (take n bytes) ≡ Some (record { due = Nothing; spot = (a, in_name more) })
unfolding at table
in-names a name more bytes n is so =
    grown is_name_byte a in_name (λ read b named. by_name (λ (c : Class). name_step a read c b ≡ goes a (in_name (read ++ b ∷ []))) refl refl refl refl (class_of b) (sym (known b).named ∙ named))
    name more (take n bytes) is.whole is.taken so

pub in-attributes : (a : Around) (h : Holder) (xs : List Attribute) (name more bytes : List ℕ) (n : ℕ) → IsRun run_of.Name bytes n → more ≡ name ++ take n bytes →
    run true (Some (record { due = Nothing; spot = (a, in_attribute h xs name) })) (take n bytes) ≡ Some (record { due = Nothing; spot = (a, in_attribute h xs more) })
unfolding at table
in-attributes a h xs name more bytes n is so =
    grown is_name_byte a (in_attribute h xs) (λ read b named. by_name (λ (c : Class). attribute_step a h xs read c b ≡ goes a (in_attribute h xs (read ++ b ∷ []))) refl refl refl refl (class_of b) (sym (known b).named ∙ named))
    name more (take n bytes) is.whole is.taken so

-- what comes is what goes on with the name
same-front : (left bytes : List ℕ) (s n : ℕ) → take s left ≡ take s bytes → n ≤ s → take n left ≡ take n bytes
same-front left bytes s n same few = sym (take-take n s left few) ∙ ap (take n) same ∙ take-take n s bytes few

pub in-closings : (a : Around) (name bytes : List ℕ) (matched s n : ℕ) → take s (drop matched name) ≡ take s bytes → IsRun run_of.Name (take s bytes) n → s ≤ length bytes →
    run true (Some (record { due = Nothing; spot = (a, in_closing (drop matched name)) })) (take n bytes) ≡ Some (record { due = Nothing; spot = (a, in_closing (drop (matched + n) name)) })
unfolding at
in-closings a name bytes matched s n same is long =
    let few : n ≤ s = omega (arith, is.within, length-take s bytes) in
    let front : take n (take s bytes) ≡ take n bytes = take-take n s bytes few in
    let here : take n bytes ++ drop (matched + n) name ≡ drop matched name =
    ap (λ (t : List ℕ). t ++ drop (matched + n) name) (sym (same-front (drop matched name) bytes s n same few))
    ∙ ap (λ (t : List ℕ). take n (drop matched name) ++ t) (sym (drop-drop n matched name)) ∙ take-append-drop n (drop matched name) in
    let walks : walk true (Some (a, in_closing (drop matched name))) (take n bytes) ≡ Some (a, in_closing (drop (matched + n) name)) =
    ap (λ (t : List ℕ). walk true (Some (a, in_closing t)) (take n bytes)) (sym here)
    ∙ closes a (take n bytes) (drop (matched + n) name) (subst (Each (λ b. IsTrue (is_name_byte b))) front is.taken) in
    whole a (in_closing (drop matched name)) (in_closing (drop (matched + n) name)) (take n bytes) (subst (λ (t : List ℕ). IsDue t Nothing) front is.whole) walks

-- an entity goes on, or ends
pub in-entity : (a : Around) (from to : Reference) (bytes : List ℕ) (n : ℕ) → IsPartOfEntity from bytes n (More to) →
    run true (Some (record { due = Nothing; spot = (a, in_text_reference from) })) (take n bytes) ≡ Some (record { due = Nothing; spot = (a, in_text_reference to) })
unfolding at
in-entity a from to bytes n is = whole a (in_text_reference from) (in_text_reference to) (take n bytes) is.whole (is.text a)

pub past-entity : (a : Around) (from : Reference) (character : ℕ) (bytes : List ℕ) (n : ℕ) → IsPartOfEntity from bytes n (Done character) →
    run true (Some (record { due = Nothing; spot = (a, in_text_reference from) })) (take n bytes) ≡ Some (record { due = Nothing; spot = (a, at_between) })
unfolding at
past-entity a from character bytes n is = whole a (in_text_reference from) at_between (take n bytes) is.whole (is.text a)

pub in-value-entity : (a : Around) (h : Holder) (xs : List Attribute) (name : List ℕ) (quote : ℕ) (value : List ℕ) (from to : Reference) (bytes : List ℕ) (n : ℕ) → IsPartOfEntity from bytes n (More to) →
    run true (Some (record { due = Nothing; spot = (a, in_value_reference h xs name quote value from) })) (take n bytes) ≡ Some (record { due = Nothing; spot = (a, in_value_reference h xs name quote value to) })
unfolding at
in-value-entity a h xs name quote value from to bytes n is =
    whole a (in_value_reference h xs name quote value from) (in_value_reference h xs name quote value to) (take n bytes) is.whole (is.value a h xs name quote value)

pub past-value-entity : (a : Around) (h : Holder) (xs : List Attribute) (name : List ℕ) (quote : ℕ) (value more : List ℕ) (from : Reference) (character : ℕ) (bytes : List ℕ) (n : ℕ) →
    IsPartOfEntity from bytes n (Done character) → more ≡ value ++ character ∷ [] →
    run true (Some (record { due = Nothing; spot = (a, in_value_reference h xs name quote value from) })) (take n bytes) ≡ Some (record { due = Nothing; spot = (a, in_value h xs name quote more) })
unfolding at
past-value-entity a h xs name quote value more from character bytes n is so =
    whole a (in_value_reference h xs name quote value from) (in_value h xs name quote more) (take n bytes) is.whole
    (is.value a h xs name quote value ∙ ap (λ (v : List ℕ). Some (a, in_value h xs name quote v)) (sym so))

pub run-as : {s t u v : State} (bytes : List ℕ) → s ≡ u → t ≡ v → run true (Some u) bytes ≡ Some v → run true (Some s) bytes ≡ Some t
run-as {s} {t} {u} {v} bytes before after is = ap (λ (x : State). run true (Some x) bytes) before ∙ is ∙ ap Some (sym after)

stack-on : (o : Opened) (os : List Opened) (fs : List Frame) → (x : Opened) × (xs : List Opened) × (stack_on (o ∷ os) fs ≡ x ∷ xs)
stack-on o os [] = (o, os, refl)
stack-on o os (f ∷ fs) = stack-on (opened_of f) (o ∷ os) fs

stack-some : (fs : List Frame) → (length fs ≡ 0 → ⊥) → (x : Opened) × (xs : List Opened) × (stack_on [] fs ≡ x ∷ xs)
stack-some [] some = absurd (some refl)
stack-some (f ∷ fs) some = stack-on (opened_of f) [] fs

-- open elements are around a place
pub open-around : (s : Scanner) → (length s.frames.items ≡ 0 → ⊥) → (x : Opened) × (xs : List Opened) × (around_of s ≡ within x xs)
open-around s some = let stack = stack-some s.frames.items some in (stack.0, stack.1, ap (λ (os : List Opened). around_in os s.root) stack.2)

-- a run behind what has been read
pub passed-on : (bytes : List ℕ) (i n : ℕ) (s u : State) → run true (Some start) (take i bytes) ≡ Some s → run true (Some s) (take n (drop i bytes)) ≡ Some u → run true (Some start) (take (i + n) bytes) ≡ Some u
passed-on bytes i n s u before is =
    ap (run true (Some start)) (take-add i n bytes) ∙ run-append true (Some start) (take i bytes) (take n (drop i bytes)) ∙ ap (λ (o : Option State). run true o (take n (drop i bytes))) before ∙ is

pub passed-none : (bytes : List ℕ) (i n : ℕ) (s u : State) → n ≡ 0 → run true (Some start) (take i bytes) ≡ Some s → run true (Some s) (take n (drop i bytes)) ≡ Some u → run true (Some start) (take i bytes) ≡ Some u
passed-none bytes i n s u none before is =
    let same : i + n ≡ i = omega arith in
    ap (λ (k : ℕ). run true (Some start) (take k bytes)) (sym same) ∙ passed-on bytes i n s u before is
