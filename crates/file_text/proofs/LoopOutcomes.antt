-- What the reader's loop has shown where it stops, and at its end.
use Rattle.std.proofs.Common.{◌≡◌, ℕ, ◌+◌, ◌-◌, ◌<◌, ◌≤◌, ◌⊎◌, inl, inr, refl, sym, ◌∙◌, ap, true, List, length, take, slice_index, Option, Some, None}
use Rattle.file_text.specs.declared.error.Construct.TheVariants.{Encoding}
use Rattle.file_text.specs.declared.error.TextError.{TextError}
use Rattle.file_text.specs.declared.error.TextError.TheVariants.{Unsupported, TooDeep}
use Rattle.file_text.specs.declared.taken.Taken.TheVariants as taken
use Rattle.file_text.specs.declared.due.Due.{Due}
use Rattle.file_text.specs.declared.due.Due.TheVariants.{Nothing, Byte}
use Rattle.file_text.specs.Node.{Node}
use Rattle.file_text.specs.Grammar.{IsText}
use Rattle.file_text.specs.Fault.{FirstFault}
use Rattle.file_text.specs.inside.Utf8.{due_after}
use Rattle.file_text.specs.inside.Machine.{class_of, Around, prolog, within, epilog, Shape, at_between, Step, goes, leaves, too_deep, other_encoding, table, Spot, State, both, follow, run, start, tree_at, spelled_at, Takes}
use Rattle.file_text.specs.inside.Exits.{IsStop, FaultAt, BehindQuote}
use Rattle.file_text.proofs.MachineReadsExactly.{finished, completes, sounds, parts}
use Rattle.file_text.proofs.LeavingPlaces.{run_more}
use Rattle.file_text.proofs.RecognisedFaults.{stops_refused, stops_early, first_fault, deep_fault, other_fault}

-- a byte with which the text goes on
takes_goes : (d : Option Due) (s : Step) (u : State) → Takes d s taken.Goes u → both d (follow true s) ≡ Some u
takes_goes None s u takes = cc
takes_goes (Some d) (goes a x) u takes = ap Some (sym takes.1)
takes_goes (Some d) leaves u takes = cc
takes_goes (Some d) too_deep u takes = cc
takes_goes (Some d) (other_encoding a x) u takes = cc

pub goes_on : (bytes : List ℕ) (n : ℕ) (s u : State) → n < length bytes → run true (Some start) (take n bytes) ≡ Some s
    → Takes (due_after s.due (slice_index bytes n)) (table s.spot.0 s.spot.1 (class_of (slice_index bytes n)) (slice_index bytes n)) taken.Goes u
    → run true (Some start) (take (n + 1) bytes) ≡ Some u
goes_on bytes n s u lt here takes =
    run_more true bytes n s lt here
    ∙ takes_goes (due_after s.due (slice_index bytes n)) (table s.spot.0 s.spot.1 (class_of (slice_index bytes n)) (slice_index bytes n)) u takes

-- a byte that is refused
takes_leaves : (d : Option Due) (s : Step) (u : State) → Takes d s taken.Leaves u → (d ≡ None) ⊎ (s ≡ leaves)
takes_leaves None s u takes = inl refl
takes_leaves (Some d) (goes a x) u takes = let goes_there = takes.0 in cc
takes_leaves (Some d) leaves u takes = inr refl
takes_leaves (Some d) too_deep u takes = cc
takes_leaves (Some d) (other_encoding a x) u takes = cc

pub leaves_fault : (bytes : List ℕ) (n : ℕ) (f : TextError) → IsStop bytes n taken.Leaves → FaultAt bytes n f → FirstFault bytes f
leaves_fault bytes n f stop shown =
    let b : ℕ = slice_index bytes n in
    let refuses = takes_leaves (due_after stop.state.due b) (table stop.state.spot.0 stop.state.spot.1 (class_of b) b) stop.after stop.takes in
    first_fault bytes n f (stops_refused bytes n stop.state stop.within_bytes stop.here refuses) shown

-- one that begins too deep an element
record Deep (d : Option Due) (s : Step) : Type 0 where
  due : Due
  is_due : d ≡ Some due
  is_deep : s ≡ too_deep

takes_deep : (d : Option Due) (s : Step) (u : State) → Takes d s taken.TooDeep u → Deep d s
takes_deep None s u takes = cc
takes_deep (Some d) (goes a x) u takes = let goes_there = takes.0 in cc
takes_deep (Some d) leaves u takes = cc
takes_deep (Some d) too_deep u takes = record { due = d; is_due = refl; is_deep = refl }
takes_deep (Some d) (other_encoding a x) u takes = cc

pub too_deep_fault : (bytes : List ℕ) (n : ℕ) → IsStop bytes n taken.TooDeep → (1 ≤ n) × FirstFault bytes (TooDeep (n - 1))
too_deep_fault bytes n stop =
    let b : ℕ = slice_index bytes n in
    let deep = takes_deep (due_after stop.state.due b) (table stop.state.spot.0 stop.state.spot.1 (class_of b) b) stop.after stop.takes in
    deep_fault bytes n stop.state deep.due stop.within_bytes stop.here deep.is_due deep.is_deep

-- one that ends the name of another encoding
record Other (d : Option Due) (s : Step) : Type 0 where
  due : Due
  around : Around
  shape : Shape
  is_due : d ≡ Some due
  is_other : s ≡ other_encoding around shape

takes_other : (d : Option Due) (s : Step) (u : State) → Takes d s taken.OtherEncoding u → Other d s
takes_other None s u takes = cc
takes_other (Some d) (goes a x) u takes = let goes_there = takes.0 in cc
takes_other (Some d) leaves u takes = cc
takes_other (Some d) too_deep u takes = cc
takes_other (Some d) (other_encoding a x) u takes = record { due = d; around = a; shape = x; is_due = refl; is_other = refl }

pub encoding_fault : (bytes : List ℕ) (n p : ℕ) → IsStop bytes n taken.OtherEncoding → BehindQuote bytes n (slice_index bytes n) p → FirstFault bytes (Unsupported p Encoding)
encoding_fault bytes n p stop behind =
    let b : ℕ = slice_index bytes n in
    let other = takes_other (due_after stop.state.due b) (table stop.state.spot.0 stop.state.spot.1 (class_of b) b) stop.after stop.takes in
    other_fault bytes n p stop.state other.due other.around other.shape stop.within_bytes stop.here other.is_due other.is_other behind

-- the end of the bytes
spelled_there : (d : Due) (a : Around) (x : Shape) (e : Node) → spelled_at d a x ≡ Some e → (d ≡ Nothing) × (◌≡◌ {A = Spot} (a, x) (epilog e, at_between))
spelled_there Nothing prolog x e is = cc
spelled_there Nothing (within o os) x e is = cc
spelled_there Nothing (epilog r) at_between e is = (refl, (let same : r ≡ e = cc in let at_root : Node → Spot = λ t. (epilog t, at_between) in ap at_root same))
spelled_there Nothing (epilog r) x e is = cc
spelled_there (Byte low high more) a x e is = cc

pub read_text : (bytes : List ℕ) (s : State) (e : Node) → run true (Some start) bytes ≡ Some s → tree_at s ≡ Some e → IsText e bytes
read_text bytes s e here told =
    let (due, spot) = parts true bytes s here in
    let (none, there) = spelled_there s.due s.spot.0 s.spot.1 e told in
    sounds true e bytes (spot ∙ ap Some there) (due ∙ ap Some none)

pub read_only : (bytes : List ℕ) (s : State) (e d : Node) → run true (Some start) bytes ≡ Some s → tree_at s ≡ Some e → IsText d bytes → e ≡ d
read_only bytes s e d here told (xs, spells, fits) =
    let read : Some s ≡ Some (finished d) = sym here ∙ completes true xs d bytes spells fits in
    let same : s ≡ finished d = cc in
    let both_told : Some e ≡ Some d = sym told ∙ ap tree_at same in
    cc

pub early_fault : (bytes : List ℕ) (s : State) (f : TextError) → run true (Some start) bytes ≡ Some s → tree_at s ≡ None → FaultAt bytes (length bytes) f → FirstFault bytes f
early_fault bytes s f here told shown = first_fault bytes (length bytes) f (stops_early bytes s here told) shown
