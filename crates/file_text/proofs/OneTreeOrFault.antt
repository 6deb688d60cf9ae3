-- Each text has a tree or a fault, and one alone.
use Rattle.std.proofs.Common.{◌≡◌, ◌≢◌, ℕ, zero, suc, ◌+◌, ◌-◌, ◌<◌, ◌≤◌, ◌⊎◌, inl, inr, refl, sym, ◌∙◌, ap, subst, true, eqb, List, length, take, drop, slice_index, Option, Some, None, codes, bytes_eq, arith, add-one}
use Rattle.std.proofs.lemmas.Bool.{cases_Bool, cases_lt, cases_eq, eqb-true, eqb-false}
use Rattle.std.proofs.lemmas.List.{take_all}
use Rattle.std.proofs.lemmas.Option.{same_Some}
use Rattle.sd_base.proofs.ByteTestsDecide.{bytes_same, bytes_other}
use Rattle.file_text.specs.declared.error.Construct.TheVariants.{Doctype, Cdata, Instruction, Reference, Encoding}
use Rattle.file_text.specs.declared.error.TextError.{TextError}
use Rattle.file_text.specs.declared.error.TextError.TheVariants.{Syntax, Unsupported, TooDeep, NoMemory}
use Rattle.file_text.specs.declared.due.Due.{Due}
use Rattle.file_text.specs.Node.{Node}
use Rattle.file_text.specs.Grammar.{IsText, mark}
use Rattle.file_text.specs.Fault.{Stands, IsStart, LeavesDeclaration, KnownAt, FirstFault}
use Rattle.file_text.specs.inside.Utf8.{due_after}
use Rattle.file_text.specs.inside.Machine.{class_of, Step, goes, leaves, too_deep, other_encoding, table, State, run, start, tree_at}
use Rattle.file_text.specs.inside.Exits.{IsLiteral, FaultAt, BehindQuote}
use Rattle.file_text.proofs.MachineReadsExactly.{finished, completes}
use Rattle.file_text.proofs.LeavingPlaces.{run_more}
use Rattle.file_text.proofs.RecognisedFaults.{first_fault, stops_refused, stops_early, deep_fault, other_fault}
use Rattle.file_text.proofs.LoopOutcomes.{read_text}

-- whether a word stands at a place
whether : (word bytes : List ℕ) (p : ℕ) → Stands word bytes p ⊎ (Stands word bytes p → ⊥)
whether word bytes p = elim (cases_Bool (bytes_eq (take (length word) (drop p bytes)) word)) [
  | inl e ↦ inl (bytes_same (take (length word) (drop p bytes)) word e)
  | inr e ↦ inr (bytes_other (take (length word) (drop p bytes)) word e)
]

-- whether it stands so many bytes before n
whether_before : (word bytes : List ℕ) (n k : ℕ) → ((k ≤ n) × Stands word bytes (n - k)) ⊎ ((p : ℕ) → n ≡ p + k → Stands word bytes p → ⊥)
whether_before word bytes n k = elim (cases_lt n k) [
  | inl short ↦ inr (λ p e stands. omega arith)
  | inr long ↦ elim (whether word bytes (n - k)) [
    | inl stands ↦ inl (long, stands)
    | inr none ↦ inr (λ p e stands. none (subst (λ (m : ℕ). Stands word bytes m) (omega arith) stands))
  ]
]

whether_declaration : (bytes : List ℕ) (p n : ℕ) → LeavesDeclaration bytes p n ⊎ (LeavesDeclaration bytes p n → ⊥)
whether_declaration bytes p n = elim (cases_lt n (p + 2)) [
  | inl low ↦ inr (λ is. let l = is.low in omega arith)
  | inr low ↦ elim (cases_lt (p + 5) n) [
    | inl high ↦ inr (λ is. let h = is.high in omega arith)
    | inr high ↦ elim (cases_lt n (length bytes)) [
      | inr past ↦ inr (λ is. let w = is.within in omega arith)
      | inl fits ↦ elim (whether (take (n - p) (codes "<?xml")) bytes p) [
        | inl stands ↦ inl (record { low = low; high = high; within = fits; stands = stands })
        | inr none ↦ inr (λ is. none is.stands)
      ]
    ]
  ]
]

-- the fault that the bytes show
record Shown (bytes : List ℕ) (n : ℕ) : Type 0 where
  fault : TextError
  shows : FaultAt bytes n fault

abbrev No : List ℕ → List ℕ → ℕ → ℕ → Type 0
No word bytes n k = (p : ℕ) → n ≡ p + k → Stands word bytes p → ⊥

not_started : (bytes : List ℕ) (n p : ℕ) → (LeavesDeclaration bytes 0 n → ⊥) → (Stands mark bytes 0 → LeavesDeclaration bytes 3 n → ⊥) → IsStart bytes p → LeavesDeclaration bytes p n → ⊥
not_started bytes n p none none_marked (inl first) is = none (subst (λ (m : ℕ). LeavesDeclaration bytes m n) first is)
not_started bytes n p none none_marked (inr (behind, marked)) is = none_marked marked (subst (λ (m : ℕ). LeavesDeclaration bytes m n) behind is)

no_literal : (bytes : List ℕ) (n : ℕ) (f : TextError) → No (codes "<!DOCTYPE") bytes n 2 → No (codes "<![CDATA[") bytes n 2 → No (codes "&#") bytes n 1 → No (codes "<?") bytes n 1
    → (LeavesDeclaration bytes 0 n → ⊥) → (Stands mark bytes 0 → LeavesDeclaration bytes 3 n → ⊥) → IsLiteral f → KnownAt bytes n f → ⊥
no_literal bytes n (Unsupported p Doctype) a b c d e g literal known = a p known.0 known.1
no_literal bytes n (Unsupported p Cdata) a b c d e g literal known = b p known.0 known.1
no_literal bytes n (Unsupported p Reference) a b c d e g literal known = c p known.0 known.1
no_literal bytes n (Unsupported p Instruction) a b c d e g literal (inl known) = d p known.0 known.1
no_literal bytes n (Unsupported p Instruction) a b c d e g literal (inr known) = not_started bytes n p e g known.0 known.1
no_literal bytes n (Unsupported p Encoding) a b c d e g literal known = known
no_literal bytes n (TooDeep p) a b c d e g literal known = literal
no_literal bytes n (Syntax p) a b c d e g literal known = known
no_literal bytes n NoMemory a b c d e g literal known = known

shown_start : (bytes : List ℕ) (n : ℕ) → No (codes "<!DOCTYPE") bytes n 2 → No (codes "<![CDATA[") bytes n 2 → No (codes "&#") bytes n 1 → No (codes "<?") bytes n 1 → Shown bytes n
shown_start bytes n a b c d = elim (whether_declaration bytes 0 n) [
  | inl is ↦ record { fault = Unsupported 0 Instruction; shows = inr (inl refl, is) }
  | inr none ↦ elim (whether_declaration bytes 3 n) [
    | inr none_marked ↦ record { fault = Syntax n; shows = (refl, λ f. no_literal bytes n f a b c d none (λ _. none_marked)) }
    | inl is ↦ elim (whether mark bytes 0) [
      | inl marked ↦ record { fault = Unsupported 3 Instruction; shows = inr (inr (refl, marked), is) }
      | inr no_mark ↦ record { fault = Syntax n; shows = (refl, λ f. no_literal bytes n f a b c d none (λ marked. absurd (no_mark marked))) }
    ]
  ]
]

shown : (bytes : List ℕ) (n : ℕ) → Shown bytes n
shown bytes n = elim (whether_before (codes "<!DOCTYPE") bytes n 2) [
  | inl is ↦ record { fault = Unsupported (n - 2) Doctype; shows = (omega arith, is.1) }
  | inr a ↦ elim (whether_before (codes "<![CDATA[") bytes n 2) [
    | inl is ↦ record { fault = Unsupported (n - 2) Cdata; shows = (omega arith, is.1) }
    | inr b ↦ elim (whether_before (codes "&#") bytes n 1) [
      | inl is ↦ record { fault = Unsupported (n - 1) Reference; shows = (omega arith, is.1) }
      | inr c ↦ elim (whether_before (codes "<?") bytes n 1) [
        | inl is ↦ record { fault = Unsupported (n - 1) Instruction; shows = inl (omega arith, is.1) }
        | inr d ↦ shown_start bytes n a b c d
      ]
    ]
  ]
]

-- the place behind the last quote
last_more : (bytes : List ℕ) (q p n k : ℕ) → slice_index bytes n ≢ q → ((j : ℕ) → p ≤ j → j < n → slice_index bytes j ≢ q) → p ≤ k → k < suc n → slice_index bytes k ≢ q
last_more bytes q p n k other last le lt = elim (cases_eq k n) [
  | inl same ↦ rw same other
  | inr ne ↦ last k le (omega arith)
]

quote_place : (bytes : List ℕ) (q n : ℕ) → (p : ℕ) × BehindQuote bytes n q p
quote_place bytes q zero = (0, record { within = omega arith; behind = λ lt. absurd (omega arith); last = λ k le lt. absurd (omega arith) })
quote_place bytes q (suc n) = elim (cases_Bool (eqb (slice_index bytes n) q)) [
  | inl e ↦ (suc n, record { within = omega arith; behind = λ lt. ap (λ k. slice_index bytes k) (omega arith) ∙ eqb-true (slice_index bytes n) q e; last = λ k le lt. absurd (omega arith) })
  | inr e ↦ (let (p, is) = quote_place bytes q n in
      (p, record { within = (let w = is.within in omega arith); behind = is.behind; last = λ k le lt. last_more bytes q p n k (eqb-false (slice_index bytes n) q e) is.last le lt }))
]

-- the run goes on, or shows a fault
abbrev Found : List ℕ → Type 0
Found bytes = (f : TextError) × FirstFault bytes f

found_refused : (bytes : List ℕ) (n : ℕ) (s : State) → n < length bytes → run true (Some start) (take n bytes) ≡ Some s
    → (due_after s.due (slice_index bytes n) ≡ None) ⊎ (table s.spot.0 s.spot.1 (class_of (slice_index bytes n)) (slice_index bytes n) ≡ leaves) → Found bytes
found_refused bytes n s lt here refuses =
    let there = shown bytes n in
    (there.fault, first_fault bytes n there.fault (stops_refused bytes n s lt here refuses) there.shows)

found_next : (bytes : List ℕ) (n : ℕ) (s : State) (d : Option Due) (t : Step) → n < length bytes → run true (Some start) (take n bytes) ≡ Some s
    → due_after s.due (slice_index bytes n) ≡ d → table s.spot.0 s.spot.1 (class_of (slice_index bytes n)) (slice_index bytes n) ≡ t
    → ((u : State) × (run true (Some start) (take (n + 1) bytes) ≡ Some u)) ⊎ Found bytes
found_next bytes n s None t lt here due step = inr (found_refused bytes n s lt here (inl due))
found_next bytes n s (Some d) leaves lt here due step = inr (found_refused bytes n s lt here (inr step))
found_next bytes n s (Some d) too_deep lt here due step = inr (TooDeep (n - 1), (deep_fault bytes n s d lt here due step).1)
found_next bytes n s (Some d) (other_encoding a x) lt here due step =
    let (p, behind) = quote_place bytes (slice_index bytes n) n in
    inr (Unsupported p Encoding, other_fault bytes n p s d a x lt here due step behind)
found_next bytes n s (Some d) (goes a x) lt here due step =
    inl (record { due = d; spot = (a, x) }, run_more true bytes n s lt here ∙ rw (due, step) refl)

found_from : (bytes : List ℕ) (n : ℕ) → n ≤ length bytes → ((s : State) × (run true (Some start) (take n bytes) ≡ Some s)) ⊎ Found bytes
found_from bytes zero le = inl (start, refl)
found_from bytes (suc n) le = elim (found_from bytes n (omega arith)) [
  | inr found ↦ inr found
  | inl at_n ↦ subst (λ (m : ℕ). ((u : State) × (run true (Some start) (take m bytes) ≡ Some u)) ⊎ Found bytes) (add-one n)
      (found_next bytes n at_n.0 (due_after at_n.0.due (slice_index bytes n)) (table at_n.0.spot.0 at_n.0.spot.1 (class_of (slice_index bytes n)) (slice_index bytes n)) (omega arith) at_n.1 refl refl)
]

found_end : (bytes : List ℕ) (s : State) (e : Option Node) → run true (Some start) bytes ≡ Some s → tree_at s ≡ e → ((d : Node) × IsText d bytes) ⊎ Found bytes
found_end bytes s (Some e) here told = inl (e, read_text bytes s e here told)
found_end bytes s None here told =
    let there = shown bytes (length bytes) in
    inr (there.fault, first_fault bytes (length bytes) there.fault (stops_early bytes s here told) there.shows)

-- each text has a tree or a fault
pub some_answer : (bytes : List ℕ) → ((e : Node) × IsText e bytes) ⊎ ((f : TextError) × FirstFault bytes f)
some_answer bytes = elim (found_from bytes (length bytes) (omega arith)) [
  | inr found ↦ inr found
  | inl at_end ↦ found_end bytes at_end.0 (tree_at at_end.0) (rw (take_all (length bytes) bytes (omega arith)) at at_end.1) refl
]

-- one tree
pub one_tree : (bytes : List ℕ) (d e : Node) → IsText d bytes → IsText e bytes → d ≡ e
one_tree bytes d e (xs, is, fits) (ys, is_too, fits_too) =
    let same : Some (finished d) ≡ Some (finished e) = sym (completes true xs d bytes is fits) ∙ completes true ys e bytes is_too fits_too in
    let trees : tree_at (finished d) ≡ tree_at (finished e) = let states : finished d ≡ finished e = cc in ap tree_at states in
    same_Some d e trees
