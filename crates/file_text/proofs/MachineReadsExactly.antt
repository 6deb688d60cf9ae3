-- The machine goes on exactly along the beginnings of texts of the grammar.
use Rattle.std.proofs.Common.{◌≡◌, ℕ, refl, sym, ◌∙◌, ap, subst, Bool, true, false, List, [], ◌∷◌, ◌++◌, Option, Some, None}
use Rattle.file_text.specs.declared.tree.Attribute.{Attribute}
use Rattle.file_text.specs.declared.due.Due.{Due}
use Rattle.file_text.specs.declared.due.Due.TheVariants.{Nothing}
use Rattle.file_text.specs.Node.{Node}
use Rattle.file_text.specs.Grammar.{Each, Spells}
use Rattle.file_text.specs.Fault.{IsPrefix}
use Rattle.file_text.specs.inside.Utf8.{due_after, due_along}
use Rattle.file_text.specs.inside.Machine.{class_of, prolog, epilog, at_start, at_between, Step, goes, leaves, too_deep, other_encoding, Spot, follow, advance, walk, State, both, move, run, start, table, IsTidy}
use Rattle.file_text.proofs.BytesSpellUtf8.{due_along-append, due_along-IsUtf8, IsUtf8-due_along}
use Rattle.file_text.proofs.MachineWalks.{walk-append}
use Rattle.file_text.proofs.OverTags.{Allowed}
use Rattle.file_text.proofs.OverTexts.{reads, all_allowed}
use Rattle.file_text.proofs.ReadSoFar.{IsClosed, Has, Holds}
use Rattle.file_text.proofs.KeepsEnds.{holds}
use Rattle.file_text.proofs.TidyRuns.{run_parts, TidyState, tidy}
use Rattle.file_text.proofs.TextsEnd.{Finishes}
use Rattle.file_text.proofs.BeginsText.{ends}

-- where a text of the grammar ends
abbrev pub finished : Node → State
finished e = record { due = Nothing; spot = (epilog e, at_between) }

-- what is spelled is read whole
pub completes : (strict : Bool) (xs : List Attribute) (e : Node) (t : List ℕ) → Spells xs e t → Each (Allowed strict) xs → run strict (Some start) t ≡ Some (finished e)
completes strict xs e t is allowed =
    let due = due_along-IsUtf8 t is.utf8 in
    let spot = reads strict xs e t is allowed in
    run_parts strict t ∙ rw (due, spot) refl

-- what is read whole is spelled
pub sounds : (strict : Bool) (e : Node) (t : List ℕ) → walk strict (Some (prolog, at_start)) t ≡ Some (epilog e, at_between) → due_along (Some Nothing) t ≡ Some Nothing
    → (xs : List Attribute) × Spells xs e t × Each (Allowed strict) xs
sounds strict e t spot due =
    let closed : IsClosed strict e t = subst (λ (o : Option Spot). Holds strict o t) spot (holds strict t) in (
      closed.declared,
      record {
        prolog = closed.front;
        root = closed.root;
        misc = closed.misc;
        is_prolog = closed.is_front;
        is_root = closed.is_root;
        is_misc = closed.is_misc;
        spelled = closed.spelled;
        shallow = closed.shallow;
        utf8 = IsUtf8-due_along t due;
      },
      closed.allowed,
    )

-- the two parts of a state
pub both_parts : (d : Option Due) (o : Option Spot) (s : State) → both d o ≡ Some s → (d ≡ Some s.due) × (o ≡ Some s.spot)
both_parts None o s e = cc
both_parts (Some d) None s e = cc
both_parts (Some d) (Some p) s e =
    let same : record { due = d; spot = p } ≡ s = cc in
    (ap (λ (x : State). Some x.due) same, ap (λ (x : State). Some x.spot) same)

pub parts : (strict : Bool) (t : List ℕ) (s : State) → run strict (Some start) t ≡ Some s
    → (due_along (Some Nothing) t ≡ Some s.due) × (walk strict (Some (prolog, at_start)) t ≡ Some s.spot)
parts strict t s e = both_parts (due_along (Some Nothing) t) (walk strict (Some (prolog, at_start)) t) s (sym (run_parts strict t) ∙ e)

pub tidy_at : (strict : Bool) (t : List ℕ) (s : State) → run strict (Some start) t ≡ Some s → IsTidy s.due s.spot.0 s.spot.1
tidy_at strict t s e = subst TidyState e (tidy strict t)

pub has_at : (strict : Bool) (t : List ℕ) (s : State) → run strict (Some start) t ≡ Some s → Has strict s.spot.0 s.spot.1 t
has_at strict t s e = subst (λ (o : Option Spot). Holds strict o t) (parts strict t s e).1 (holds strict t)

-- a run goes on from where another one came
pub run-append : (strict : Bool) (o : Option State) (t u : List ℕ) → run strict o (t ++ u) ≡ run strict (run strict o t) u
run-append strict None t u = refl
run-append strict (Some s) [] u = refl
run-append strict (Some s) (b ∷ t) u = run-append strict (move strict s b) t u

-- what the machine goes along begins a text
pub alive : (t : List ℕ) (s : State) → run false (Some start) t ≡ Some s → IsPrefix t
alive t s e =
    let f : Finishes s.due s.spot.0 s.spot.1 = ends s.due s.spot.0 s.spot.1 t (has_at false t s e) (tidy_at false t s e) in
    let (due, spot) = parts false t s e in
    let whole : due_along (Some Nothing) (t ++ f.rest) ≡ Some Nothing = due_along-append (Some Nothing) t f.rest ∙ ap (λ o. due_along o f.rest) due ∙ f.whole in
    let read : walk false (Some (prolog, at_start)) (t ++ f.rest) ≡ Some (epilog f.root, at_between) =
    walk-append false (Some (prolog, at_start)) t f.rest ∙ ap (λ o. walk false o f.rest) spot ∙ f.reads in
    let (xs, is, allowed) = sounds false f.root (t ++ f.rest) read whole in
    (f.rest, f.root, (xs, is))

-- where it stops, no text begins so
pub dead : (t : List ℕ) → run false (Some start) t ≡ None → IsPrefix t → ⊥
dead t none (rest, e, (xs, is)) =
    let read = completes false xs e (t ++ rest) is (all_allowed xs) in
    let gone : run false (Some start) (t ++ rest) ≡ None = run-append false (Some start) t rest ∙ ap (λ o. run false o rest) none in
    let both : None ≡ Some (finished e) = sym gone ∙ read in
    cc

-- a strict machine goes no further than a loose one
loosely : (s : Step) (p : Spot) → follow true s ≡ Some p → follow false s ≡ Some p
loosely (goes a x) p e = e
loosely leaves p e = e
loosely too_deep p e = e
loosely (other_encoding a x) p e = cc

loose_move : (s u : State) (b : ℕ) → move true s b ≡ Some u → move false s b ≡ Some u
loose_move s u b e =
    let (due, spot) = both_parts (due_after s.due b) (advance true s.spot b) u e in
    rw (due, loosely (table s.spot.0 s.spot.1 (class_of b) b) u.spot spot) refl

loose_next : (u : State) (b : ℕ) (t : List ℕ) (s : State) (o : Option State) → move true u b ≡ o → ((p : Option State) → run true p t ≡ Some s → run false p t ≡ Some s)
    → run true o t ≡ Some s → run false (move false u b) t ≡ Some s
loose_next u b t s None m next e = cc
loose_next u b t s (Some v) m next e = rw (loose_move u v b m) (next (Some v) e)

loose_from : (o : Option State) (t : List ℕ) (s : State) → run true o t ≡ Some s → run false o t ≡ Some s
loose_from None t s e = e
loose_from (Some u) [] s e = e
loose_from (Some u) (b ∷ t) s e = loose_next u b t s (move true u b) refl (λ o. loose_from o t s) e

pub loose : (t : List ℕ) (s : State) → run true (Some start) t ≡ Some s → run false (Some start) t ≡ Some s
loose t s e = loose_from (Some start) t s e
