-- The fault that is recognised first: where each one comes, and that it is one.
use Rattle.std.proofs.Common.{◌≡◌, ℕ, suc, ◌+◌, ◌-◌, ◌<◌, ◌≤◌, ◌⊎◌, inl, inr, refl, sym, ◌∙◌, ap, subst, Bool, true, false, ltb, List, [], ◌∷◌, ◌++◌, length, length-append, take, slice_index, Option, Some, None, codes, arith}
use Rattle.std.proofs.lemmas.Bool.Decides.{nat_tests}
use Rattle.std.proofs.Math.Seq.{drop-cons}
use Rattle.std.proofs.lemmas.List.{take_all, take_more, length-take-le, get_or-take, get_or_push}
use Rattle.file_text.specs.declared.error.Construct.TheVariants.{Doctype, Cdata, Instruction, Reference, Encoding}
use Rattle.file_text.specs.declared.error.TextError.{TextError}
use Rattle.file_text.specs.declared.error.TextError.TheVariants.{Syntax, Unsupported, TooDeep, NoMemory}
use Rattle.file_text.specs.declared.class.Class.TheVariants.{Less}
use Rattle.file_text.specs.declared.mode.Comment.TheVariants as part
use Rattle.file_text.specs.declared.due.Due.{Due}
use Rattle.file_text.specs.declared.due.Due.TheVariants.{Nothing}
use Rattle.file_text.specs.Node.{Node}
use Rattle.file_text.specs.Grammar.{is_name_start, IsText}
use Rattle.file_text.specs.Fault.{LeavesAt, Stands, begins_name, KnownAt, IsEncodingAt, FirstFault}
use Rattle.file_text.specs.inside.Utf8.{due_after}
use Rattle.file_text.specs.inside.Machine.{class_of, Around, prolog, within, epilog, Opened, Shape, at_first, at_markup, in_comment, in_closing, in_name, Step, goes, leaves, too_deep, other_encoding, open_step, Spot, follow, advance, State, both, move, run, start, tree_at, table, IsTidyShape}
use Rattle.file_text.specs.inside.Exits.{IsLiteral, FaultAt, BehindQuote}
use Rattle.file_text.proofs.MachineWalks.{at_begin}
use Rattle.file_text.proofs.StepsStayTidy.{ascii_after}
use Rattle.file_text.proofs.ReadSoFar.{Has}
use Rattle.file_text.proofs.MachineSteps.{IsDeep, Shows, shows, IsBehindLess, LeadsBehind, behind_less, either}
use Rattle.file_text.proofs.MachineReadsExactly.{both_parts, tidy_at, has_at, run-append, alive, loose}
use Rattle.file_text.proofs.LeavingPlaces.{run_more, leaves_at, one_place, spelled_stays, run_one}
use Rattle.file_text.proofs.OtherEncodingsStop.{encoding_in, viable_run, no_encoding, spelled_no_encoding, encoding_same, both-none_spot}
use Rattle.file_text.proofs.OneKnownFault.{stands_at, known_same}

-- a byte with which a name begins begins a character, and the other way round
begins_due : (b : ℕ) → begins_name b ≡ true → due_after Nothing b ≡ None → ⊥
begins_due b begins none = absurd (grind (arith, nat_tests))

begins_start : (b : ℕ) → begins_name b ≡ true → is_name_start b ≡ true
begins_start b begins = grind (arith, nat_tests)

start_begins : (b : ℕ) (d : Due) → is_name_start b ≡ true → due_after Nothing b ≡ Some d → begins_name b ≡ true
start_begins b d begins due = grind (arith, nat_tests)

-- a fault is an encoding, or else comes where the bytes leave the grammar
abbrev Declared : List ℕ → TextError → Type 0
Declared bytes f = (p : ℕ) × (f ≡ Unsupported p Encoding) × IsEncodingAt bytes p

abbrev AtPlace : List ℕ → TextError → ℕ → Type 0
AtPlace bytes f n = ((f ≡ Syntax n) × ((g : TextError) → KnownAt bytes n g → ⊥)) ⊎ KnownAt bytes n f

abbrev Left : List ℕ → TextError → Type 0
Left bytes f = ((p : ℕ) → IsEncodingAt bytes p → ⊥) × ((n : ℕ) × LeavesAt bytes n × AtPlace bytes f n)

sorted : (bytes : List ℕ) (f : TextError) → FirstFault bytes f → Declared bytes f ⊎ Left bytes f
sorted bytes (Syntax n) a = inr (a.1, (n, a.0, inl (refl, a.2)))
sorted bytes (Unsupported p Encoding) a = inl (p, refl, a)
sorted bytes (Unsupported p Doctype) a = inr (a.0, (a.1.0, a.1.1, inr a.1.2))
sorted bytes (Unsupported p Cdata) a = inr (a.0, (a.1.0, a.1.1, inr a.1.2))
sorted bytes (Unsupported p Instruction) a = inr (a.0, (a.1.0, a.1.1, inr a.1.2))
sorted bytes (Unsupported p Reference) a = inr (a.0, (a.1.0, a.1.1, inr a.1.2))
sorted bytes (TooDeep p) a = inr (a.0, (a.1.0, a.1.1, inr a.1.2))
sorted bytes NoMemory a = inr (a.0, (a.1.0, a.1.1, inr a.1.2))

one_at_place : (bytes : List ℕ) (f g : TextError) (n : ℕ) → AtPlace bytes f n → AtPlace bytes g n → f ≡ g
one_at_place bytes f g n (inl a) (inl b) = a.0 ∙ sym b.0
one_at_place bytes f g n (inl a) (inr b) = absurd (a.1 g b)
one_at_place bytes f g n (inr a) (inl b) = absurd (b.1 f a)
one_at_place bytes f g n (inr a) (inr b) = known_same bytes n f g a b

one_sorted : (bytes : List ℕ) (f g : TextError) → Declared bytes f ⊎ Left bytes f → Declared bytes g ⊎ Left bytes g → f ≡ g
one_sorted bytes f g (inl (p, a, is)) (inl (q, b, at_q)) = a ∙ ap (λ r. Unsupported r Encoding) (encoding_same bytes p q is at_q) ∙ sym b
one_sorted bytes f g (inl (p, a, is)) (inr (none, left)) = absurd (none p is)
one_sorted bytes f g (inr (none, left)) (inl (q, b, at_q)) = absurd (none q at_q)
one_sorted bytes f g (inr (none, (m, leaves_m, at_m))) (inr (none_too, (n, leaves_n, at_n))) =
    one_at_place bytes f g n (subst (λ (k : ℕ). AtPlace bytes f k) (one_place bytes m n leaves_m leaves_n) at_m) at_n

-- a fault is one
pub one_fault : (bytes : List ℕ) (f g : TextError) → FirstFault bytes f → FirstFault bytes g → f ≡ g
one_fault bytes f g a b = one_sorted bytes f g (sorted bytes f a) (sorted bytes g b)

-- and a text that is spelled has none
no_sorted : (bytes : List ℕ) (e : Node) (f : TextError) → IsText e bytes → Declared bytes f ⊎ Left bytes f → ⊥
no_sorted bytes e f is (inl (p, same, other)) = spelled_no_encoding bytes e p is other
no_sorted bytes e f (xs, spells, fits) (inr (none, (n, leaves_n, at_n))) = spelled_stays bytes e n (xs, spells) leaves_n

pub no_fault : (bytes : List ℕ) (e : Node) (f : TextError) → IsText e bytes → FirstFault bytes f → ⊥
no_fault bytes e f is a = no_sorted bytes e f is (sorted bytes f a)

-- where too deep an element begins
word_at : (bytes t : List ℕ) (n b : ℕ) → n ≤ length bytes → take n bytes ≡ t ++ b ∷ [] → (1 ≤ n) × (slice_index bytes (n - 1) ≡ b)
word_at bytes t n b fits e =
    let size : n ≡ length t + 1 = sym (length-take-le n bytes fits) ∙ ap length e ∙ length-append t (b ∷ []) in
    (omega arith, sym (get_or-take n bytes (n - 1) 0 (omega arith)) ∙ ap (λ s. slice_index s (n - 1)) e ∙ get_or_push t b 0 (n - 1) (omega arith))

stands_less : (bytes : List ℕ) (p : ℕ) → p < length bytes → slice_index bytes p ≡ 60 → Stands (codes "<") bytes p
stands_less bytes p lt is = rw (drop-cons bytes p 0 lt) (ap (λ b. b ∷ []) is)

slash_goes : (o : Opened) (os : List Opened) (d : Due) → d ≡ Nothing → (u : State) × (both (due_after d 47) (advance false (within o os, at_markup) 47) ≡ Some u)
unfolding table
slash_goes o os d none = (record { due = Nothing; spot = (within o os, in_closing o.name) }, rw none refl)

deep_known : (bytes : List ℕ) (n : ℕ) (s : State) (d : Due) (a : Around) (x : Shape) → n < length bytes → run true (Some start) (take n bytes) ≡ Some s → s.spot ≡ (a, x)
    → due_after s.due (slice_index bytes n) ≡ Some d → IsDeep a x (slice_index bytes n) → (1 ≤ n) × KnownAt bytes n (TooDeep (n - 1))
deep_known bytes n s d (within o os) at_markup lt here spot due begins =
    let has = subst (λ (p : Spot). Has true p.0 p.1 (take n bytes)) spot (has_at true (take n bytes) s here) in
    let behind = word_at bytes has.0 n 60 (omega arith) has.2 in
    let tidy = tidy_at true (take n bytes) s here in
    let none : s.due ≡ Nothing = subst (λ (p : Spot). IsTidyShape s.due p.0 p.1) spot tidy.shape in
    let (u, goes_on) = slash_goes o os s.due none in
    let slash : run false (Some start) (take n bytes ++ codes "/") ≡ Some u =
    run-append false (Some start) (take n bytes) (codes "/") ∙ ap (λ o. run false o (codes "/")) (loose (take n bytes) s here)
    ∙ ap (λ (p : Spot). run false (both (due_after s.due 47) (advance false p 47)) []) spot ∙ ap (λ o. run false o []) goes_on in (
      behind.0,
      (
        omega arith,
        stands_less bytes (n - 1) (omega arith) behind.1,
        lt,
        start_begins (slice_index bytes n) d begins (rw none at due),
        alive (take n bytes ++ codes "/") u slash,
      ),
    )
deep_known bytes n s d a x lt here spot due deep = absurd deep

-- the machine refuses a byte
abbrev pub Refuses : State → ℕ → Type 0
Refuses s b = (due_after s.due b ≡ None) ⊎ (table s.spot.0 s.spot.1 (class_of b) b ≡ leaves)

refused : (strict : Bool) (s : State) (b : ℕ) → Refuses s b → move strict s b ≡ None
refused strict s b (inl e) = rw e refl
refused strict s b (inr e) = both-none_spot (due_after s.due b) (advance strict s.spot b) (rw e refl)

-- the state before the last byte
record Before (bytes : List ℕ) (p : ℕ) (s : State) : Type 0 where
  state : State
  here : run true (Some start) (take p bytes) ≡ Some state
  moves : move true state (slice_index bytes p) ≡ Some s

before_last : (bytes : List ℕ) (p : ℕ) (s : State) (o : Option State) → p < length bytes → run true (Some start) (take (p + 1) bytes) ≡ Some s → run true (Some start) (take p bytes) ≡ o → Before bytes p s
before_last bytes p s None lt here e =
    let none : run true (Some start) (take (p + 1) bytes) ≡ None =
    ap (λ t. run true (Some start) t) (take_more bytes p 0 lt) ∙ run-append true (Some start) (take p bytes) (slice_index bytes p ∷ []) ∙ ap (λ o. run true o (slice_index bytes p ∷ [])) e in
    let both : None ≡ Some s = sym none ∙ here in
    cc
before_last bytes p s (Some t) lt here e = record {
  state = t;
  here = e;
  moves = sym (run_more true bytes p t lt e) ∙ here;
}

behind_step : (s : Step) (p : Spot) → LeadsBehind s → follow true s ≡ Some p → IsBehindLess p.1
behind_step (goes a x) p leads e = subst (λ (q : Spot). IsBehindLess q.1) (let same : (a, x) ≡ p = cc in same) leads
behind_step leaves p leads e = cc
behind_step too_deep p leads e = cc
behind_step (other_encoding a x) p leads e = cc

-- behind a `<` a slash may follow only where a name is refused for its depth alone
slash_refused : (a : Around) (x : Shape) (b : ℕ) → IsBehindLess x → (advance false (a, x) 47 ≡ None → ⊥) → is_name_start b ≡ true → table a x (class_of b) b ≡ leaves → ⊥
unfolding table
slash_refused a at_first b behind slash begins e = slash refl
slash_refused prolog at_markup b behind slash begins e = slash refl
slash_refused (epilog r) at_markup b behind slash begins e = slash refl
slash_refused (within o os) at_markup b behind slash begins e =
    let opens : open_step (within o os) b ≡ leaves → ⊥ = either (λ s. s ≡ leaves → ⊥) (ltb (suc (length os)) 32) (goes (within o os) (in_name (b ∷ []))) too_deep (λ f. cc) (λ f. cc) in
    at_begin (λ c. table (within o os) at_markup c b ≡ leaves → ⊥) b begins opens opens e
slash_refused a (in_comment part.Body) b behind slash begins e = at_begin (λ c. table a (in_comment part.Body) c b ≡ leaves → ⊥) b begins (λ f. cc) (λ f. cc) e
slash_refused a x b behind slash begins e = absurd behind

spot_none : (d : Option Due) (o : Option Spot) (u : State) → both d o ≡ Some u → o ≡ None → ⊥
spot_none d o u e none = let gone : both d o ≡ None = both-none_spot d o none in let both_ways : None ≡ Some u = sym gone ∙ e in cc

-- where a byte is refused no too deep an element begins
pub not_deep : (bytes : List ℕ) (n p : ℕ) (s : State) → run true (Some start) (take n bytes) ≡ Some s → Refuses s (slice_index bytes n) → KnownAt bytes n (TooDeep p) → ⊥
not_deep bytes n p s here refuses (place, stands, lt, begins, viable) =
    let less : slice_index bytes p ≡ 60 = ap (λ k. slice_index bytes k) (omega arith) ∙ stands_at (codes "<") bytes p 0 stands (omega arith) in
    let last = before_last bytes p s (run true (Some start) (take p bytes)) (omega arith) (rw place at here) refl in
    let (due, spot) = both_parts (due_after last.state.due (slice_index bytes p)) (advance true last.state.spot (slice_index bytes p)) s last.moves in
    let due_less : due_after last.state.due 60 ≡ Some s.due = rw less at due in
    let spot_less : follow true (table last.state.spot.0 last.state.spot.1 Less 60) ≡ Some s.spot = rw less at spot in
    let tidy = tidy_at true (take p bytes) last.state last.here in
    let none : s.due ≡ Nothing = (ascii_after last.state.due s.due 60 (omega arith) tidy.proper due_less).1 in
    let behind : IsBehindLess s.spot.1 = behind_step (table last.state.spot.0 last.state.spot.1 Less 60) s.spot (behind_less last.state.spot.0 last.state.spot.1) spot_less in
    let (u, goes_on) = viable_run (take n bytes ++ codes "/") viable in
    let slash : both (due_after s.due 47) (advance false s.spot 47) ≡ Some u =
    sym (run-append false (Some start) (take n bytes) (codes "/") ∙ ap (λ o. run false o (codes "/")) (loose (take n bytes) s here) ∙ run_one false (move false s 47)) ∙ goes_on in
    elim refuses [
      | inl no_due ↦ begins_due (slice_index bytes n) begins (rw none at no_due)
      | inr refusal ↦ slash_refused s.spot.0 s.spot.1 (slice_index bytes n) behind (λ e. spot_none (due_after s.due 47) (advance false s.spot 47) u slash e) (begins_start (slice_index bytes n) begins) refusal
    ]

-- the fault where a byte is refused, and where the bytes end too early
pub record Stops (bytes : List ℕ) (n : ℕ) : Type 0 where
  pub leaves_there : LeavesAt bytes n
  pub no_other : (p : ℕ) → IsEncodingAt bytes p → ⊥
  pub no_deep : (p : ℕ) → KnownAt bytes n (TooDeep p) → ⊥

pub stops_refused : (bytes : List ℕ) (n : ℕ) (s : State) → n < length bytes → run true (Some start) (take n bytes) ≡ Some s → Refuses s (slice_index bytes n) → Stops bytes n
stops_refused bytes n s lt here refuses =
    let there = leaves_at bytes n s (omega arith) here (λ _. refused false s (slice_index bytes n) refuses) (λ e. absurd (omega arith)) in
    record {
      leaves_there = there;
      no_other = λ p. no_encoding bytes n s p here there;
      no_deep = λ p. not_deep bytes n p s here refuses;
    }

pub stops_early : (bytes : List ℕ) (s : State) → run true (Some start) bytes ≡ Some s → tree_at s ≡ None → Stops bytes (length bytes)
stops_early bytes s whole none =
    let all : take (length bytes) bytes ≡ bytes = take_all (length bytes) bytes (omega arith) in
    let here : run true (Some start) (take (length bytes) bytes) ≡ Some s = rw all whole in
    let there = leaves_at bytes (length bytes) s (omega arith) here (λ lt. absurd (omega arith)) (λ _. none) in
    record {
      leaves_there = there;
      no_other = λ p. no_encoding bytes (length bytes) s p here there;
      no_deep = λ p known. absurd (let lt = known.2 in omega arith);
    }

no_known : (bytes : List ℕ) (n : ℕ) (g : TextError) → ((f : TextError) → IsLiteral f → KnownAt bytes n f → ⊥) → ((p : ℕ) → KnownAt bytes n (TooDeep p) → ⊥) → KnownAt bytes n g → ⊥
no_known bytes n (Unsupported p what) none no_deep known = none (Unsupported p what) tt known
no_known bytes n (TooDeep p) none no_deep known = no_deep p known
no_known bytes n (Syntax p) none no_deep known = known
no_known bytes n NoMemory none no_deep known = known

-- the fault that the bytes show there
pub first_fault : (bytes : List ℕ) (n : ℕ) (f : TextError) → Stops bytes n → FaultAt bytes n f → FirstFault bytes f
first_fault bytes n (Syntax p) stops (same, none) =
    rw same (stops.leaves_there, stops.no_other, λ g known. no_known bytes n g none stops.no_deep known)
first_fault bytes n (Unsupported p Encoding) stops known = absurd known
first_fault bytes n (Unsupported p Doctype) stops known = (stops.no_other, (n, stops.leaves_there, known))
first_fault bytes n (Unsupported p Cdata) stops known = (stops.no_other, (n, stops.leaves_there, known))
first_fault bytes n (Unsupported p Instruction) stops known = (stops.no_other, (n, stops.leaves_there, known))
first_fault bytes n (Unsupported p Reference) stops known = (stops.no_other, (n, stops.leaves_there, known))
first_fault bytes n (TooDeep p) stops known = absurd known
first_fault bytes n NoMemory stops known = absurd known

-- too deep an element
pub deep_fault : (bytes : List ℕ) (n : ℕ) (s : State) (d : Due) → n < length bytes → run true (Some start) (take n bytes) ≡ Some s
    → due_after s.due (slice_index bytes n) ≡ Some d → table s.spot.0 s.spot.1 (class_of (slice_index bytes n)) (slice_index bytes n) ≡ too_deep
    → (1 ≤ n) × FirstFault bytes (TooDeep (n - 1))
deep_fault bytes n s d lt here due step =
    let stops : move false s (slice_index bytes n) ≡ None = both-none_spot (due_after s.due (slice_index bytes n)) (advance false s.spot (slice_index bytes n)) (rw step refl) in
    let there = leaves_at bytes n s (omega arith) here (λ _. stops) (λ e. absurd (omega arith)) in
    let known = deep_known bytes n s d s.spot.0 s.spot.1 lt here refl due
    (subst (λ (x : Step). Shows s.spot.0 s.spot.1 (slice_index bytes n) x) step (shows s.spot.0 s.spot.1 (slice_index bytes n))) in
    (known.0, ((λ p. no_encoding bytes n s p here there), (n, there, known.1)))

-- another encoding
pub other_fault : (bytes : List ℕ) (n p : ℕ) (s : State) (d : Due) (c : Around) (y : Shape) → n < length bytes → run true (Some start) (take n bytes) ≡ Some s
    → due_after s.due (slice_index bytes n) ≡ Some d → table s.spot.0 s.spot.1 (class_of (slice_index bytes n)) (slice_index bytes n) ≡ other_encoding c y
    → BehindQuote bytes n (slice_index bytes n) p → FirstFault bytes (Unsupported p Encoding)
other_fault bytes n p s d c y lt here due step behind =
    let goes_on : move false s (slice_index bytes n) ≡ Some (record { due = d; spot = (c, y) }) = rw (due, step) refl in
    let next : run false (Some start) (take (n + 1) bytes) ≡ Some (record { due = d; spot = (c, y) }) = run_more false bytes n s lt (loose (take n bytes) s here) ∙ goes_on in
    encoding_in bytes n p s.spot.0 s.spot.1 lt (alive (take (n + 1) bytes) (record { due = d; spot = (c, y) }) next) (has_at true (take n bytes) s here)
    (subst (λ (x : Step). Shows s.spot.0 s.spot.1 (slice_index bytes n) x) step (shows s.spot.0 s.spot.1 (slice_index bytes n))) behind
