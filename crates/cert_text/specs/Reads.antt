-- Reading a text line by line, up to the first faulty line.
use Rattle.std.specs.Prelude.{◌≡◌, ◌⊎◌, ℕ, zero, suc, List, [], ◌∷◌, Result, Ok, Err, ◌==◌, if◌then◌else◌}
use Rattle.cert_text.specs.declared.reading.fault.Fault.{Fault}
use Rattle.cert_text.specs.declared.reading.fault.Fault.TheVariants.{Form, Memory}

-- the lines of a text, each with its line feed; the last one may lack it
abbrev pub onto : ℕ → List (List ℕ) → List (List ℕ)
onto b [] = (b ∷ []) ∷ []
onto b (l ∷ ls) = (b ∷ l) ∷ ls

unfoldable pub lines_of : List ℕ → List (List ℕ)
lines_of [] = []
lines_of (b ∷ bs) = if b == 10 then (b ∷ []) ∷ lines_of bs else onto b (lines_of bs)

-- what is read of lines and the lines that are left, or what is wrong with a line and the lines behind it
abbrev pub Reads : Type 0 → Type 0
Reads A = Result (A × List (List ℕ)) (Fault × List (List ℕ))

-- then: the first fault is the one that counts
infixl 10 ◌>>=◌
abbrev pub ◌>>=◌ : {A B E : Type 0} → Result A E → (A → Result B E) → Result B E
(Ok x) >>= f = f x
(Err e) >>= f = Err e

-- what is read of one line, in front of others
abbrev pub in_front : {A : Type 0} → Result A Fault → List (List ℕ) → Reads A
in_front (Ok x) left = Ok (x, left)
in_front (Err e) left = Err (e, left)

-- reads the next line; where there is none, its form is wrong
abbrev pub next_by : {A : Type 0} → (List ℕ → Result A Fault) → List (List ℕ) → Reads A
next_by f [] = Err (Form, [])
next_by f (line ∷ left) = in_front (f line) left

-- what a reader answers and leaves of a text is what reading gives, unless memory runs out
abbrev pub Gives : {A : Type 0} → Result A Fault → List ℕ → Reads A → Type 0
Gives (Ok x) left read = read ≡ Ok (x, lines_of left)
Gives (Err e) left read = (e ≡ Memory) ⊎ (read ≡ Err (e, lines_of left))

-- beside what is known then
abbrev pub GivesKnown : {S A : Type 0} → Result A Fault → S → List ℕ → Reads (S × A) → Type 0
GivesKnown (Ok x) known left read = read ≡ Ok ((known, x), lines_of left)
GivesKnown (Err e) known left read = (e ≡ Memory) ⊎ (read ≡ Err (e, lines_of left))

-- and of a line
abbrev pub GivesLine : {A : Type 0} → Result A Fault → Result A Fault → Type 0
GivesLine (Ok x) read = read ≡ Ok x
GivesLine (Err e) read = (e ≡ Memory) ⊎ (read ≡ Err e)

-- reads so many times
unfoldable pub times_by : {A : Type 0} → (List (List ℕ) → Reads A) → ℕ → List (List ℕ) → Reads (List A)
times_by f zero lines = Ok ([], lines)
times_by f (suc n) lines = do
  x ← f lines
  xs ← times_by f n x.1
  Ok (x.0 ∷ xs.0, xs.1)

-- and hands on what is known so far
unfoldable pub handing : {S A : Type 0} → (S → List (List ℕ) → Reads (S × A)) → ℕ → S → List (List ℕ) → Reads (S × List A)
handing f zero known lines = Ok ((known, []), lines)
handing f (suc n) known lines = do
  x ← f known lines
  xs ← handing f n x.0.0 x.1
  Ok ((xs.0.0, x.0.1 ∷ xs.0.1), xs.1)
