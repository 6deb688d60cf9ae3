-- Tests of bytes decide whether they are equal; with small facts on truth values, options and numbers.
use Rattle.std.proofs.Common.{◌≡◌, ◌≢◌, ℕ, ◌+◌, ◌*◌, ◌≤◌, ◌<◌, Bool, true, false, ◌||◌, if◌then◌else◌, List, refl, sym, ◌∙◌, arith, bytes_eq, mul-le-mul_right, Option, None, Some}
use Rattle.std.proofs.lemmas.Bool.{false≢true, false_from_ne_true}
use Rattle.std.proofs.lemmas.Slice.Eq.{bytes_eq-Decides}
use Rattle.std.proofs.lemmas.Option.{same_Some, none-some}

pub or-none : (b : Bool) → (b || false) ≡ b
or-none true = refl
or-none false = refl

pub if-le : (b : Bool) (n : ℕ) → (if b then n else 0) ≤ n
if-le true n = omega arith
if-le false n = omega arith

-- ---- bytes that are the same or differ

pub same_bytes : (xs : List ℕ) → bytes_eq xs xs ≡ true
same_bytes xs = (bytes_eq-Decides xs xs).1 refl

pub bytes_same : (xs ys : List ℕ) → bytes_eq xs ys ≡ true → xs ≡ ys
bytes_same xs ys e = (bytes_eq-Decides xs ys).0 e

pub bytes_differ : (xs ys : List ℕ) → xs ≢ ys → bytes_eq xs ys ≡ false
bytes_differ xs ys differ = false_from_ne_true (bytes_eq xs ys) (λ e. differ (bytes_same xs ys e))

pub bytes_other : (xs ys : List ℕ) → bytes_eq xs ys ≡ false → xs ≢ ys
bytes_other xs ys e same = false≢true (sym e ∙ (bytes_eq-Decides xs ys).1 same)

pub bytes_turned : (xs ys : List ℕ) → bytes_eq xs ys ≡ bytes_eq ys xs
bytes_turned xs ys = go (bytes_eq xs ys) (bytes_eq ys xs) refl refl
  where
    go : (x y : Bool) → bytes_eq xs ys ≡ x → bytes_eq ys xs ≡ y → x ≡ y
    go true true p q = refl
    go true false p q = sym ((bytes_eq-Decides ys xs).1 (sym (bytes_same xs ys p))) ∙ q
    go false true p q = sym p ∙ (bytes_eq-Decides xs ys).1 (sym (bytes_same ys xs q))
    go false false p q = refl

-- ---- options

pub one-some : {A : Type 0} (o : Option A) (a b : A) → o ≡ Some a → o ≡ Some b → a ≡ b
one-some o a b one other = same_Some a b (sym one ∙ other)

pub some-none : {A : Type 0} (o : Option A) (a : A) → o ≡ Some a → o ≡ None → ⊥
some-none o a some none = none-some a (sym none ∙ some)

-- ---- numbers

-- a number below s beside another one, as one number
pub pair-small : (a i s n : ℕ) → a < n → i < s → a * s + i < n * s
pair-small a i s n below less =
    let next : (a + 1) * s ≤ n * s = mul-le-mul_right s (omega arith) in omega arith
