-- The faults that are known where bytes leave the grammar: one at most.
use Rattle.std.proofs.Common.{◌≡◌, ◌≢◌, ℕ, zero, suc, ◌+◌, ◌-◌, ◌<◌, ◌≤◌, ◌⊎◌, inl, inr, refl, sym, ◌∙◌, ap, subst, Bool, true, List, [], length, take, drop, slice_index, codes, if◌then◌else◌, ◌==◌, min, eqb, bytes_eq, Decides, arith}
use Rattle.std.proofs.lemmas.Bool.Decides.{nat_tests}
use Rattle.std.proofs.lemmas.List.{get_or-take, get_or-drop, take_rest, drop_min}
use Rattle.std.proofs.lemmas.Slice.Eq.{bytes_eq-Decides}
use Rattle.std.specs.List.{starts_with}
use Rattle.file_text.specs.declared.error.Construct.TheVariants.{Doctype, Cdata, Instruction, Reference, Encoding}
use Rattle.file_text.specs.declared.error.TextError.{TextError}
use Rattle.file_text.specs.declared.error.TextError.TheVariants.{Syntax, Unsupported, TooDeep, NoMemory}
use Rattle.file_text.specs.Grammar.{mark}
use Rattle.file_text.specs.Fault.{Stands, IsStart, LeavesDeclaration, KnownAt, begins_name}

-- the bytes of a word that stands at a place
pub stands_at : (word bytes : List ℕ) (p k : ℕ) → Stands word bytes p → k < length word → slice_index bytes (p + k) ≡ slice_index word k
stands_at word bytes p k is lt =
    sym (get_or-drop p bytes k 0) ∙ sym (get_or-take (length word) (drop p bytes) k 0 lt) ∙ ap (λ t. slice_index t k) is

-- the bytes before and at the place where a fault is known
abbrev Marks : TextError → ℕ → ℕ → Type 0
Marks (Unsupported p Doctype) x y = (x ≡ 33) × (y ≡ 68)
Marks (Unsupported p Cdata) x y = (x ≡ 33) × (y ≡ 91)
Marks (Unsupported p Reference) x y = x ≡ 38
Marks (Unsupported p Instruction) x y = ((x ≡ 60) × (y ≡ 63)) ⊎ (63 ≤ x)
Marks (TooDeep p) x y = (x ≡ 60) × (y ≢ 63)
Marks f x y = ⊥

no_question : (b : ℕ) → begins_name b ≡ true → b ≢ 63
no_question b begins e = grind (arith, nat_tests)

-- a beginning of `<?xml` of at least two bytes ends in none of `<`, `!` and `&`
xml_end : (k : ℕ) → 2 ≤ k → k ≤ 5 → 63 ≤ slice_index (take k (codes "<?xml")) (k - 1)
xml_end zero l h = absurd (omega arith)
xml_end (suc zero) l h = absurd (omega arith)
xml_end (suc (suc zero)) l h = omega arith
xml_end (suc (suc (suc zero))) l h = omega arith
xml_end (suc (suc (suc (suc zero)))) l h = omega arith
xml_end (suc (suc (suc (suc (suc zero))))) l h = omega arith
xml_end (suc (suc (suc (suc (suc (suc k)))))) l h = absurd (omega arith)

xml_length : (k : ℕ) → k ≤ 5 → length (take k (codes "<?xml")) ≡ k
xml_length zero h = refl
xml_length (suc zero) h = refl
xml_length (suc (suc zero)) h = refl
xml_length (suc (suc (suc zero))) h = refl
xml_length (suc (suc (suc (suc zero)))) h = refl
xml_length (suc (suc (suc (suc (suc zero))))) h = refl
xml_length (suc (suc (suc (suc (suc (suc k)))))) h = absurd (omega arith)

at_place : (bytes : List ℕ) (m n x : ℕ) → m ≡ n → slice_index bytes m ≡ x → slice_index bytes n ≡ x
at_place bytes m n x e is = rw e at is

marks : (bytes : List ℕ) (n : ℕ) (f : TextError) → KnownAt bytes n f → Marks f (slice_index bytes (n - 1)) (slice_index bytes n)
marks bytes n (Syntax p) known = absurd known
marks bytes n (Unsupported p Doctype) (place, stands) = (
  at_place bytes (p + 1) (n - 1) 33 (omega arith) (stands_at (codes "<!DOCTYPE") bytes p 1 stands (omega arith)),
  at_place bytes (p + 2) n 68 (omega arith) (stands_at (codes "<!DOCTYPE") bytes p 2 stands (omega arith)),
)
marks bytes n (Unsupported p Cdata) (place, stands) = (
  at_place bytes (p + 1) (n - 1) 33 (omega arith) (stands_at (codes "<![CDATA[") bytes p 1 stands (omega arith)),
  at_place bytes (p + 2) n 91 (omega arith) (stands_at (codes "<![CDATA[") bytes p 2 stands (omega arith)),
)
marks bytes n (Unsupported p Reference) (place, stands) =
    at_place bytes (p + 0) (n - 1) 38 (omega arith) (stands_at (codes "&#") bytes p 0 stands (omega arith))
marks bytes n (Unsupported p Instruction) (inl (place, stands)) =
    inl (
      at_place bytes (p + 0) (n - 1) 60 (omega arith) (stands_at (codes "<?") bytes p 0 stands (omega arith)),
      at_place bytes (p + 1) n 63 (omega arith) (stands_at (codes "<?") bytes p 1 stands (omega arith)),
    )
marks bytes n (Unsupported p Instruction) (inr (start, is)) =
    let low = is.low in
    let high = is.high in
    let size = xml_length (n - p) (omega arith) in
    inr (subst (λ (x : ℕ). 63 ≤ x)
    (sym (stands_at (take (n - p) (codes "<?xml")) bytes p (n - p - 1) is.stands (omega arith)) ∙ ap (λ k. slice_index bytes k) (omega arith))
    (xml_end (n - p) (omega arith) (omega arith)))
marks bytes n (Unsupported p Encoding) known = absurd known
marks bytes n (TooDeep p) (place, stands, within, begins, viable) =
    (at_place bytes (p + 0) (n - 1) 60 (omega arith) (stands_at (codes "<") bytes p 0 stands (omega arith)), no_question (slice_index bytes n) begins)
marks bytes n NoMemory known = absurd known

-- the kinds of faults, and the kind that two bytes tell
abbrev kind : TextError → ℕ
kind (Unsupported p Doctype) = 0
kind (Unsupported p Cdata) = 1
kind (Unsupported p Reference) = 2
kind (Unsupported p Instruction) = 3
kind (TooDeep p) = 4
kind (Unsupported p Encoding) = 5
kind (Syntax p) = 6
kind NoMemory = 7

abbrev told : ℕ → ℕ → ℕ
told x y = if x == 33 then (if y == 68 then 0 else 1) else (if x == 38 then 2 else (if x == 60 then (if y == 63 then 3 else 4) else 3))

kind_told : (f : TextError) (x y : ℕ) → Marks f x y → kind f ≡ told x y
kind_told (Syntax p) x y m = absurd m
kind_told (Unsupported p Doctype) x y m = grind (arith, nat_tests)
kind_told (Unsupported p Cdata) x y m = grind (arith, nat_tests)
kind_told (Unsupported p Reference) x y m = grind (arith, nat_tests)
kind_told (Unsupported p Instruction) x y m = grind (arith, nat_tests)
kind_told (Unsupported p Encoding) x y m = absurd m
kind_told (TooDeep p) x y m = grind (arith, nat_tests)
kind_told NoMemory x y m = absurd m

-- the very start is one place
one_start : (bytes : List ℕ) (p q : ℕ) → IsStart bytes p → IsStart bytes q → slice_index bytes p ≡ 60 → slice_index bytes q ≡ 60 → p ≡ q
one_start bytes p q (inl a) (inl b) x y = omega arith
one_start bytes p q (inl a) (inr b) x y = absurd (let first = stands_at mark bytes 0 0 b.1 (omega arith) in let here : slice_index bytes 0 ≡ 60 = rw a at x in omega arith)
one_start bytes p q (inr a) (inl b) x y = absurd (let first = stands_at mark bytes 0 0 a.1 (omega arith) in let here : slice_index bytes 0 ≡ 60 = rw b at y in omega arith)
one_start bytes p q (inr a) (inr b) x y = omega arith

xml_first : (k : ℕ) → 1 ≤ k → slice_index (take k (codes "<?xml")) 0 ≡ 60
xml_first zero h = absurd (omega arith)
xml_first (suc k) h = refl

-- an instruction at the very start begins with a `<`
start_less : (bytes : List ℕ) (p k : ℕ) → 2 ≤ k → k ≤ 5 → Stands (take k (codes "<?xml")) bytes p → slice_index bytes p ≡ 60
start_less bytes p k low high stands =
    let size = xml_length k high in
    at_place bytes (p + 0) p 60 (omega arith) (stands_at (take k (codes "<?xml")) bytes p 0 stands (omega arith) ∙ xml_first k (omega arith))

-- behind a `<` the very start is left only with a `?`
instruction_apart : (bytes : List ℕ) (n p q : ℕ) → n ≡ p + 1 → Stands (codes "<?") bytes p
    → LeavesDeclaration bytes q n → ⊥
instruction_apart bytes n p q place stands is =
    let low = is.low in
    let high = is.high in
    let size = xml_length (n - q) (omega arith) in
    let less : slice_index bytes (p + 0) ≡ 60 = stands_at (codes "<?") bytes p 0 stands (omega arith) in
    let other : 63 ≤ slice_index (take (n - q) (codes "<?xml")) (n - q - 1) = xml_end (n - q) (omega arith) (omega arith) in
    let here : slice_index bytes (q + (n - q - 1)) ≡ slice_index (take (n - q) (codes "<?xml")) (n - q - 1) =
    stands_at (take (n - q) (codes "<?xml")) bytes q (n - q - 1) is.stands (omega arith) in
    let same : slice_index bytes (q + (n - q - 1)) ≡ slice_index bytes (p + 0) = ap (λ k. slice_index bytes k) (omega arith) in
    omega arith

instruction_same : (bytes : List ℕ) (n p q : ℕ) → KnownAt bytes n (Unsupported p Instruction) → KnownAt bytes n (Unsupported q Instruction) → p ≡ q
instruction_same bytes n p q (inl a) (inl b) = omega arith
instruction_same bytes n p q (inl (place, stands)) (inr b) =
    absurd (instruction_apart bytes n p q place stands b.1)
instruction_same bytes n p q (inr a) (inl (place, stands)) =
    absurd (instruction_apart bytes n q p place stands a.1)
instruction_same bytes n p q (inr a) (inr b) =
    let low_p = a.1.low in
    let high_p = a.1.high in
    let low_q = b.1.low in
    let high_q = b.1.high in
    one_start bytes p q a.0 b.0 (start_less bytes p (n - p) (omega arith) (omega arith) a.1.stands) (start_less bytes q (n - q) (omega arith) (omega arith) b.1.stands)

same_place : (bytes : List ℕ) (n : ℕ) (f g : TextError) → KnownAt bytes n f → KnownAt bytes n g → kind f ≡ kind g → f ≡ g
same_place bytes n (Syntax p) g a b e = absurd a
same_place bytes n NoMemory g a b e = absurd a
same_place bytes n (Unsupported p Encoding) g a b e = absurd a
same_place bytes n (Unsupported p Doctype) (Unsupported q Doctype) a b e = ap (λ r. Unsupported r Doctype) (omega arith)
same_place bytes n (Unsupported p Cdata) (Unsupported q Cdata) a b e = ap (λ r. Unsupported r Cdata) (omega arith)
same_place bytes n (Unsupported p Reference) (Unsupported q Reference) a b e = ap (λ r. Unsupported r Reference) (omega arith)
same_place bytes n (Unsupported p Instruction) (Unsupported q Instruction) a b e = ap (λ r. Unsupported r Instruction) (instruction_same bytes n p q a b)
same_place bytes n (TooDeep p) (TooDeep q) a b e = ap TooDeep (omega arith)
same_place bytes n (TooDeep p) (Unsupported q Doctype) a b e = absurd (omega arith)
same_place bytes n (TooDeep p) (Unsupported q Cdata) a b e = absurd (omega arith)
same_place bytes n (TooDeep p) (Unsupported q Reference) a b e = absurd (omega arith)
same_place bytes n (TooDeep p) (Unsupported q Instruction) a b e = absurd (omega arith)
same_place bytes n (TooDeep p) (Unsupported q Encoding) a b e = absurd (omega arith)
same_place bytes n f g a b e = absurd (omega arith)

-- one fault is known
pub known_same : (bytes : List ℕ) (n : ℕ) (f g : TextError) → KnownAt bytes n f → KnownAt bytes n g → f ≡ g
known_same bytes n f g a b =
    same_place bytes n f g a b (kind_told f (slice_index bytes (n - 1)) (slice_index bytes n) (marks bytes n f a) ∙ sym (kind_told g (slice_index bytes (n - 1)) (slice_index bytes n) (marks bytes n g b)))

-- what a test of a slice's beginning says
pub begins_stands : (word bytes : List ℕ) (place m : ℕ) (r : Bool) → m ≡ min place (length bytes) → r ≡ starts_with eqb (take (length bytes - m) (drop m bytes)) word
    → Decides r (Stands word bytes place)
begins_stands word bytes place m r at_m test =
    let whole : take (length bytes - m) (drop m bytes) ≡ drop place bytes = take_rest bytes m ∙ ap (λ k. drop k bytes) at_m ∙ drop_min place bytes in
    let same : r ≡ bytes_eq word (take (length word) (drop place bytes)) = test ∙ ap (λ t. bytes_eq word (take (length word) t)) whole in
    let decides = bytes_eq-Decides word (take (length word) (drop place bytes)) in
    ((λ e. sym (decides.0 (sym same ∙ e))), (λ e. same ∙ decides.1 (sym e)))
