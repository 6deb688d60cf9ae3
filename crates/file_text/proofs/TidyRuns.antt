-- Wherever the machine comes, characters are cut only in a text that grows.
use Rattle.std.proofs.Common.{◌≡◌, ℕ, ◌<◌, refl, sym, ◌∙◌, ap, Bool, cond, eqb, List, [], ◌∷◌, Option, Some, None, arith}
use Rattle.file_text.specs.declared.tree.Attribute.{Attribute}
use Rattle.file_text.specs.declared.class.Class.{Class}
use Rattle.file_text.specs.declared.class.Class.TheVariants.{Wide, White, Letter, Digit, Hyphen, Greater}
use Rattle.file_text.specs.declared.reference.Reference.{Reference}
use Rattle.file_text.specs.declared.reference.Reference.TheVariants as reference
use Rattle.file_text.specs.declared.reference.Referred.{Referred}
use Rattle.file_text.specs.declared.reference.Referred.TheVariants.{More, Done, Leaves}
use Rattle.file_text.specs.declared.due.Due.{Due}
use Rattle.file_text.specs.declared.due.Due.TheVariants.{Nothing}
use Rattle.file_text.specs.Node.{Node, node, no_node}
use Rattle.file_text.specs.Grammar.{Entity, less, greater, ampersand, quotation, apostrophe, entity_value}
use Rattle.file_text.specs.inside.Utf8.{due_after, due_along}
use Rattle.file_text.specs.inside.Machine.{class_of, Around, prolog, within, epilog, Opened, open_of, ended, node_of, Holder, Shape, at_start, in_mark, at_first, in_declaring, at_between, at_markup, in_comment, in_name, at_gap, in_attribute, at_named, at_equals, in_value, in_value_reference, at_valued, at_slash, at_ending, in_text_reference, in_closing, goes, leaves, referred, value_reference_step, text_reference_step, slash_step, ending_step, leave_step, closing_step, table, Spot, advance, walk, State, both, move, run, start, IsDue, AreWhole, IsWholeHolder, IsTidyShape, IsProper, IsTidy}
use Rattle.file_text.proofs.KeepsEnds.{Refers, refers, when_byte}
use Rattle.file_text.proofs.StepsStayTidy.{Dues, dues, ascii_after, due_more, IsAsciiClass, TidyAt, TidyAfter, between_nothing, when_tidy, tidy_start, tidy_mark, tidy_first, tidy_declaring, tidy_between, tidy_markup, tidy_comment, tidy_name, tidy_gap, tidy_valued, tidy_attribute, tidy_named, tidy_equals, tidy_value}

-- the bytes of an entity are ASCII
abbrev pub IsAsciiRead : ℕ → Referred → Type 0
IsAsciiRead b Leaves = Unit {0}
IsAsciiRead b s = b < 128

pub ascii_read : (r : Reference) (b : ℕ) → IsAsciiRead b (referred r b)
ascii_read reference.Ampersand b =
    when_byte (λ s. IsAsciiRead b s) b 108 _ _ (λ e. omega arith)
    (when_byte (λ s. IsAsciiRead b s) b 103 _ _ (λ e. omega arith)
    (when_byte (λ s. IsAsciiRead b s) b 97 _ _ (λ e. omega arith)
    (when_byte (λ s. IsAsciiRead b s) b 113 _ _ (λ e. omega arith) tt)))
ascii_read reference.L b = when_byte (λ s. IsAsciiRead b s) b 116 _ _ (λ e. omega arith) tt
ascii_read reference.G b = when_byte (λ s. IsAsciiRead b s) b 116 _ _ (λ e. omega arith) tt
ascii_read reference.A b =
    when_byte (λ s. IsAsciiRead b s) b 109 _ _ (λ e. omega arith) (when_byte (λ s. IsAsciiRead b s) b 112 _ _ (λ e. omega arith) tt)
ascii_read reference.Am b = when_byte (λ s. IsAsciiRead b s) b 112 _ _ (λ e. omega arith) tt
ascii_read reference.Ap b = when_byte (λ s. IsAsciiRead b s) b 111 _ _ (λ e. omega arith) tt
ascii_read reference.Apo b = when_byte (λ s. IsAsciiRead b s) b 115 _ _ (λ e. omega arith) tt
ascii_read reference.Q b = when_byte (λ s. IsAsciiRead b s) b 117 _ _ (λ e. omega arith) tt
ascii_read reference.Qu b = when_byte (λ s. IsAsciiRead b s) b 111 _ _ (λ e. omega arith) tt
ascii_read reference.Quo b = when_byte (λ s. IsAsciiRead b s) b 116 _ _ (λ e. omega arith) tt
ascii_read reference.Lt b = when_byte (λ s. IsAsciiRead b s) b 59 _ _ (λ e. omega arith) tt
ascii_read reference.Gt b = when_byte (λ s. IsAsciiRead b s) b 59 _ _ (λ e. omega arith) tt
ascii_read reference.Amp b = when_byte (λ s. IsAsciiRead b s) b 59 _ _ (λ e. omega arith) tt
ascii_read reference.Apos b = when_byte (λ s. IsAsciiRead b s) b 59 _ _ (λ e. omega arith) tt
ascii_read reference.Quot b = when_byte (λ s. IsAsciiRead b s) b 59 _ _ (λ e. omega arith) tt

entity_due : (e : Entity) → due_after Nothing (entity_value e) ≡ Some Nothing
entity_due less = refl
entity_due greater = refl
entity_due ampersand = refl
entity_due quotation = refl
entity_due apostrophe = refl

tidy_value_reference : (strict : Bool) (e : Due) (a : Around) (h : Holder) (xs : List Attribute) (n : List ℕ) (q : ℕ) (v : List ℕ) (r : Reference) (b : ℕ) (s : Referred)
    → Refers r b s → (IsAsciiRead b s → b < 128 → e ≡ Nothing) → IsAsciiRead b s → AreWhole (open_of a) → IsWholeHolder h × IsDue n Nothing × IsDue v Nothing
    → TidyAfter strict e (value_reference_step a h xs n q v s)
tidy_value_reference strict e a h xs n q v r b (More m) is none low whole shape = (whole, (none low low, shape.0, shape.1, shape.2))
tidy_value_reference strict e a h xs n q v r b (Done c) (x, is, value) none low whole shape =
    (whole, (shape.0, shape.1, rw (value, none low low) (due_more v Nothing Nothing (entity_value x) shape.2 (entity_due x))))
tidy_value_reference strict e a h xs n q v r b Leaves is none low whole shape = tt

tidy_text_reference : (strict : Bool) (e : Due) (a : Around) (b : ℕ) (s : Referred) → (b < 128 → e ≡ Nothing) → IsAsciiRead b s → AreWhole (open_of a)
    → TidyAfter strict e (text_reference_step a s)
tidy_text_reference strict e a b (More m) none low whole = (whole, none low)
tidy_text_reference strict e a b (Done c) none low whole = (whole, between_nothing e a (none low))
tidy_text_reference strict e a b Leaves none low whole = tt

-- an element ends
tidy_ended : (e : Due) (os : List Opened) (x : Node) → e ≡ Nothing → AreWhole os → AreWhole (open_of (ended os x)) × IsTidyShape e (ended os x) at_between
tidy_ended e [] x none whole = (tt, none)
tidy_ended e (o ∷ os) x none whole = (whole, tt)

tidy_slash : (strict : Bool) (e : Due) (a : Around) (n : List ℕ) (xs : List Attribute) (c : Class) → (IsAsciiClass c → e ≡ Nothing) → AreWhole (open_of a) → TidyAfter strict e (slash_step a n xs c)
tidy_slash strict e a n xs Greater none whole = tidy_ended e (open_of a) (node n xs no_node) (none tt) whole
tidy_slash strict e a n xs c none whole = tt

tidy_ending : (strict : Bool) (e : Due) (a : Around) (c : Class) → (IsAsciiClass c → e ≡ Nothing) → AreWhole (open_of a) → TidyAfter strict e (ending_step a c)
tidy_ending strict e a Greater none whole = (whole, between_nothing e a (none tt))
tidy_ending strict e a c none whole = tt

tidy_leave : (strict : Bool) (e : Due) (a : Around) → e ≡ Nothing → AreWhole (open_of a) → TidyAfter strict e (leave_step a)
tidy_leave strict e prolog none whole = tt
tidy_leave strict e (within o os) none whole = tidy_ended e os (node_of o) none whole.1
tidy_leave strict e (epilog x) none whole = tt

tidy_match : (strict : Bool) (d e : Due) (a : Around) (x : ℕ) (left : List ℕ) (b : ℕ) → due_after d b ≡ Some e → AreWhole (open_of a) → due_along (Some d) (x ∷ left) ≡ Some Nothing
    → TidyAfter strict e (cond (eqb x b) (goes a (in_closing left)) leaves)
tidy_match strict d e a x left b after whole due =
    when_tidy (λ s. TidyAfter strict e s) x b (goes a (in_closing left)) leaves
    (λ same. (whole, (let next : due_after d x ≡ Some e = rw same after in sym (ap (λ o. due_along o left) next) ∙ due))) tt

tidy_closing : (strict : Bool) (d e : Due) (a : Around) (left : List ℕ) (c : Class) (b : ℕ) → Dues d e c b → AreWhole (open_of a) → due_along (Some d) left ≡ Some Nothing
    → TidyAfter strict e (closing_step a left c b)
tidy_closing strict d e a [] White b k whole due = (whole, rw (k.ascii tt).1 refl)
tidy_closing strict d e a [] Greater b k whole due = tidy_leave strict e a (k.ascii tt).1 whole
tidy_closing strict d e a [] c b k whole due = tt
tidy_closing strict d e a (x ∷ left) Letter b k whole due = tidy_match strict d e a x left b k.after whole due
tidy_closing strict d e a (x ∷ left) Digit b k whole due = tidy_match strict d e a x left b k.after whole due
tidy_closing strict d e a (x ∷ left) Hyphen b k whole due = tidy_match strict d e a x left b k.after whole due
tidy_closing strict d e a (x ∷ left) Wide b k whole due = tidy_match strict d e a x left b k.after whole due
tidy_closing strict d e a (x ∷ left) c b k whole due = tt

-- one more byte
pub tidy_step : (strict : Bool) (d e : Due) (a : Around) (x : Shape) (b : ℕ) → IsTidy d a x → due_after d b ≡ Some e → TidyAfter strict e (table a x (class_of b) b)
unfolding table
tidy_step strict d e a at_start b is after = tidy_start strict d e a (class_of b) b (dues d e b is.proper after) is.whole is.shape
tidy_step strict d e a (in_mark m) b is after = tidy_mark strict d e a m (class_of b) b (dues d e b is.proper after) is.whole is.shape
tidy_step strict d e a at_first b is after = tidy_first strict d e a (class_of b) b (dues d e b is.proper after) is.whole is.shape
tidy_step strict d e a (in_declaring m) b is after = tidy_declaring strict d e a m (class_of b) b (dues d e b is.proper after) is.whole
tidy_step strict d e a at_between b is after = tidy_between strict d e a (class_of b) b (dues d e b is.proper after) is.whole
tidy_step strict d e a at_markup b is after = tidy_markup strict d e a (class_of b) b (dues d e b is.proper after) is.whole is.shape
tidy_step strict d e a (in_comment k) b is after = tidy_comment strict d e a k (class_of b) b (dues d e b is.proper after) is.whole
tidy_step strict d e a (in_name n) b is after = tidy_name strict d e a n (class_of b) b (dues d e b is.proper after) is.whole is.shape
tidy_step strict d e a (at_gap h xs) b is after = tidy_gap strict d e a h xs (class_of b) b (dues d e b is.proper after) is.whole is.shape
tidy_step strict d e a (in_attribute h xs n) b is after = tidy_attribute strict d e a h xs n (class_of b) b (dues d e b is.proper after) is.whole is.shape
tidy_step strict d e a (at_named h xs n) b is after = tidy_named strict d e a h xs n (class_of b) b (dues d e b is.proper after) is.whole is.shape
tidy_step strict d e a (at_equals h xs n) b is after = tidy_equals strict d e a h xs n (class_of b) b (dues d e b is.proper after) is.whole is.shape
tidy_step strict d e a (in_value h xs n q v) b is after = tidy_value strict d e a h xs n q v (class_of b) b (dues d e b is.proper after) is.whole is.shape
tidy_step strict d e a (in_value_reference h xs n q v r) b is after =
    tidy_value_reference strict e a h xs n q v r b (referred r b) (refers r b) (λ _ low. (ascii_after d e b low is.proper after).1) (ascii_read r b) is.whole (is.shape.1, is.shape.2, is.shape.3)
tidy_step strict d e a (at_valued h xs) b is after = tidy_valued strict d e a h xs (class_of b) b (dues d e b is.proper after) is.whole is.shape
tidy_step strict d e a (at_slash n xs) b is after = tidy_slash strict e a n xs (class_of b) (λ k. ((dues d e b is.proper after).ascii k).1) is.whole
tidy_step strict d e a at_ending b is after = tidy_ending strict e a (class_of b) (λ k. ((dues d e b is.proper after).ascii k).1) is.whole
tidy_step strict d e a (in_text_reference r) b is after = tidy_text_reference strict e a b (referred r b) (λ low. (ascii_after d e b low is.proper after).1) (ascii_read r b) is.whole
tidy_step strict d e a (in_closing left) b is after = tidy_closing strict d e a left (class_of b) b (dues d e b is.proper after) is.whole is.shape

-- the machine's own run, and the two of which it is made
pub run-none : (strict : Bool) (t : List ℕ) → run strict None t ≡ None
run-none strict [] = refl
run-none strict (b ∷ t) = refl

pub both-none : (d : Option Due) → both d None ≡ None
both-none None = refl
both-none (Some d) = refl

pub run_both : (strict : Bool) (d : Option Due) (o : Option Spot) (t : List ℕ) → run strict (both d o) t ≡ both (due_along d t) (walk strict o t)
run_both strict None o t = rw (run-none strict t) refl
run_both strict (Some d) None t = sym (both-none (due_along (Some d) t))
run_both strict (Some d) (Some s) [] = refl
run_both strict (Some d) (Some s) (b ∷ t) = run_both strict (due_after d b) (advance strict s b) t

pub run_parts : (strict : Bool) (t : List ℕ) → run strict (Some start) t ≡ both (due_along (Some Nothing) t) (walk strict (Some (prolog, at_start)) t)
run_parts strict t = run_both strict (Some Nothing) (Some (prolog, at_start)) t

-- where the run comes it is tidy
abbrev pub TidyState : Option State → Type 0
TidyState None = Unit {0}
TidyState (Some s) = IsTidy s.due s.spot.0 s.spot.1

tidy_both : (strict : Bool) (d e : Due) (a : Around) (x : Shape) (b : ℕ) (o : Option Spot) → IsProper e → TidyAt e o → TidyState (both (Some e) o)
tidy_both strict d e a x b None proper is = tt
tidy_both strict d e a x b (Some s) proper is = record { proper = proper; whole = is.0; shape = is.1 }

tidy_move : (strict : Bool) (s : State) (b : ℕ) (d : Option Due) → due_after s.due b ≡ d → IsTidy s.due s.spot.0 s.spot.1 → TidyState (both d (advance strict s.spot b))
tidy_move strict s b None after is = tt
tidy_move strict s b (Some e) after is =
    tidy_both strict s.due e s.spot.0 s.spot.1 b (advance strict s.spot b) (dues s.due e b is.proper after).proper (tidy_step strict s.due e s.spot.0 s.spot.1 b is after)

tidy_run : (strict : Bool) (o : Option State) (t : List ℕ) → TidyState o → TidyState (run strict o t)
tidy_run strict None t is = tt
tidy_run strict (Some s) [] is = is
tidy_run strict (Some s) (b ∷ t) is = tidy_run strict (move strict s b) t (tidy_move strict s b (due_after s.due b) refl is)

pub tidy : (strict : Bool) (t : List ℕ) → TidyState (run strict (Some start) t)
tidy strict t = tidy_run strict (Some start) t (record { proper = tt; whole = tt; shape = refl })
