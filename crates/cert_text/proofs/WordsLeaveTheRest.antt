-- A text with a word in front leaves the rest of it, and no other text does.
use Rattle.std.proofs.Common.{◌≡◌, ◌≢◌, ℕ, ◌<◌, Bool, true, false, List, [], ◌∷◌, ◌++◌, length, take, drop, Result, Ok, Err, refl, ap, ◌∙◌, arith}
use Rattle.std.specs.Prelude.{◌==◌, if◌then◌else◌}
use Rattle.std.proofs.lemmas.Bool.{eq-eqb, eqb-true}
use Rattle.cert_text.specs.declared.reading.fault.Fault.{Fault}
use Rattle.cert_text.specs.declared.reading.fault.Fault.TheVariants.{Form}
use Rattle.cert_text.specs.Fields.{behind, ended}

abbrev pub fine : {A : Type 0} → A → Result A Fault
fine x = Ok x

pub ok-is : {A : Type 0} (x y : A) → fine x ≡ fine y → x ≡ y
ok-is x y e = cc

head-is : (a b : ℕ) (xs ys : List ℕ) → a ∷ xs ≡ b ∷ ys → a ≡ b
head-is a b xs ys e = cc

tail-is : (a b : ℕ) (xs ys : List ℕ) → a ∷ xs ≡ b ∷ ys → xs ≡ ys
tail-is a b xs ys e = cc

pub behind-ok : (w text : List ℕ) → take (length w) text ≡ w → behind w text ≡ Ok (drop (length w) text)
unfolding behind
behind-ok [] text e = refl
behind-ok (c ∷ w) [] e = absurd cc
behind-ok (c ∷ w) (b ∷ text) e = rw (eq-eqb b c (head-is b c _ w e)) (behind-ok w text (tail-is b c _ w e))

pub behind-short : (w text : List ℕ) → length text < length w → behind w text ≡ Err Form
unfolding behind
behind-short [] text short = absurd (omega (arith, short))
behind-short (c ∷ w) [] short = refl
behind-short (c ∷ w) (b ∷ text) short = step (b == c) (behind-short w text (omega arith))
  where
    step : (same : Bool) → behind w text ≡ Err Form → (if same then behind w text else Err Form) ≡ Err Form
    step true e = e
    step false e = refl

pub behind-other : (w text : List ℕ) → take (length w) text ≢ w → behind w text ≡ Err Form
unfolding behind
behind-other [] text other = absurd (other refl)
behind-other (c ∷ w) [] other = refl
behind-other (c ∷ w) (b ∷ text) other = step (b == c) refl (behind-other w text)
  where
    step : (same : Bool) → (b == c) ≡ same → (take (length w) text ≢ w → behind w text ≡ Err Form) → (if same then behind w text else Err Form) ≡ Err Form
    step true e others = others (λ rest. other (ap (λ (l : List ℕ). b ∷ l) rest ∙ ap (λ (x : ℕ). x ∷ w) (eqb-true b c e)))
    step false e others = refl

pub behind-sound : (w text left : List ℕ) → behind w text ≡ Ok left → text ≡ w ++ left
unfolding behind
behind-sound [] text left read = ok-is text left read
behind-sound (c ∷ w) [] left read = absurd cc
behind-sound (c ∷ w) (b ∷ text) left read = by_test (b == c) refl read (behind-sound w text left)
  where
    by_test : (same : Bool) → (b == c) ≡ same → (if same then behind w text else Err Form) ≡ Ok left → (behind w text ≡ Ok left → text ≡ w ++ left) → b ∷ text ≡ c ∷ (w ++ left)
    by_test true e found others = let rest = others found in ap (λ (x : ℕ). x ∷ text) (eqb-true b c e) ∙ ap (λ (l : List ℕ). c ∷ l) rest
    by_test false e found others = absurd cc

pub ended-sound : (text left : List ℕ) → ended text ≡ Ok left → text ≡ 10 ∷ []
ended-sound [] left read = absurd cc
ended-sound (b ∷ []) left read = by_test (b == 10) refl read
  where
    by_test : (same : Bool) → (b == 10) ≡ same → (if same then fine {A = List ℕ} [] else Err Form) ≡ Ok left → b ∷ [] ≡ 10 ∷ []
    by_test true e found = ap (λ (x : ℕ). x ∷ []) (eqb-true b 10 e)
    by_test false e found = absurd cc
ended-sound (b ∷ c ∷ rest) left read = absurd cc
