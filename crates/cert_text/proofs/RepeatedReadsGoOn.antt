-- What is read so many times goes on with what one more read gives, until it fails or ends.
use Rattle.std.proofs.Common.{◌≡◌, ℕ, suc, ◌+◌, ◌-◌, ◌<◌, ◌≤◌, ◌⊎◌, Bool, true, false, List, [], ◌∷◌, ◌++◌, Result, Ok, Err, refl, sym, ap, ◌∙◌, append_assoc, arith, inl, inr}
use Rattle.std.specs.Prelude.{◌==◌, if◌then◌else◌}
use Rattle.std.proofs.lemmas.List.{append-nil}
use Rattle.sd_base.specs.declared.limits.TheConstants.{START}
use Rattle.cert_text.specs.declared.reading.fault.Fault.{Fault}
use Rattle.cert_text.specs.declared.reading.fault.Fault.TheVariants.{Memory}
use Rattle.cert_text.specs.Reads.{Reads, ◌>>=◌, in_front, next_by, times_by, lines_of, onto}
use Rattle.cert_text.specs.LineForms.{numbers_due}
use Rattle.cert_text.specs.Sections.{actors_from, at_digit, begins_with_digit}

-- what was read before, and what is still read
abbrev pub with_front : {A : Type 0} → List A → Reads (List A) → Reads (List A)
with_front front read = read >>= λ r. Ok (front ++ r.0, r.1)

module _ {A : Type 0} where
  regroup : (front : List A) (x : A) (read : Reads (List A)) → with_front front (read >>= λ r. Ok (x ∷ r.0, r.1)) ≡ with_front (front ++ x ∷ []) read
  regroup front x (Ok r) = ap (λ (xs : List A). let y : Reads (List A) = Ok (xs, r.1) in y) (sym (append_assoc front (x ∷ []) r.0))
  regroup front x (Err e) = refl

module _ {A : Type 0} (f : List (List ℕ) → Reads A) where
  pub times-more : (front all : List A) (count i : ℕ) (lines : List (List ℕ)) (x : A) (left : List (List ℕ)) (total : Reads (List A)) → i < count → f lines ≡ Ok (x, left) → all ≡ front ++ x ∷ []
      → with_front front (times_by f (count - i) lines) ≡ total → with_front all (times_by f (count - (i + 1)) left) ≡ total
  unfolding times_by
  times-more front all count i lines x left total less read pushed so_far =
      let k : count - i ≡ suc (count - (i + 1)) = omega arith in
      let one : with_front front (times_by f (count - i) lines) ≡ with_front (front ++ x ∷ []) (times_by f (count - (i + 1)) left) = rw (k, read) (regroup front x (times_by f (count - (i + 1)) left)) in
      rw pushed (sym one ∙ so_far)

  pub times-fails : (front : List A) (count i : ℕ) (lines left : List (List ℕ)) (e : Fault) (total : Reads (List A)) → i < count → (e ≡ Memory) ⊎ (f lines ≡ Err (e, left))
      → with_front front (times_by f (count - i) lines) ≡ total → (e ≡ Memory) ⊎ (total ≡ Err (e, left))
  unfolding times_by
  times-fails front count i lines left e total less (inl memory) so_far = inl memory
  times-fails front count i lines left e total less (inr read) so_far =
      let k : count - i ≡ suc (count - (i + 1)) = omega arith in
      let one : with_front front (times_by f (count - i) lines) ≡ Err (e, left) = rw (k, read) refl in
      inr (sym so_far ∙ one)

  pub times-ends : (front : List A) (count i : ℕ) (lines : List (List ℕ)) (total : Reads (List A)) → count ≤ i → with_front front (times_by f (count - i) lines) ≡ total → total ≡ Ok (front, lines)
  unfolding times_by
  times-ends front count i lines total past so_far =
      let k : count - i ≡ 0 = omega arith in
      let one : with_front front (times_by f (count - i) lines) ≡ Ok (front, lines) = rw k (ap (λ (xs : List A). let y : Reads (List A) = Ok (xs, lines) in y) (append-nil front)) in
      sym so_far ∙ one

-- the next line begins as the text does
pub begins : (text : List ℕ) → begins_with_digit text ≡ at_digit (lines_of text)
unfolding lines_of
begins [] = refl
begins (b ∷ bs) = by_test (b == 10)
  where
    by_lines : (lines : List (List ℕ)) → begins_with_digit (b ∷ bs) ≡ at_digit (onto b lines)
    by_lines [] = refl
    by_lines (l ∷ ls) = refl

    by_test : (feed : Bool) → begins_with_digit (b ∷ bs) ≡ at_digit (if feed then (b ∷ []) ∷ lines_of bs else onto b (lines_of bs))
    by_test true = refl
    by_test false = by_lines (lines_of bs)

abbrev fine : {A : Type 0} → A → List (List ℕ) → Reads A
fine x left = Ok (x, left)

pub in-front-ok : {A : Type 0} (r : Result A Fault) (x : A) (ls left : List (List ℕ)) → in_front r ls ≡ fine x left → (r ≡ Ok x) × (ls ≡ left)
in-front-ok {A} (Ok y) x ls left e =
    let both = pair_is (y, ls) (x, left) e in
    (ap (λ (q : A × List (List ℕ)). let z : Result A Fault = Ok q.0 in z) both, ap (λ (q : A × List (List ℕ)). q.1) both)
  where
    pair_is : (a b : A × List (List ℕ)) → fine a.0 a.1 ≡ fine b.0 b.1 → a ≡ b
    pair_is a b e = cc
in-front-ok (Err y) x ls left e = absurd cc

-- lines of starts
pub actors-more : (front all : List (List ℕ)) (lines : List (List ℕ)) (x : List ℕ) (left : List (List ℕ)) (total : Reads (List (List ℕ))) → true ≡ at_digit lines → next_by (numbers_due START) lines ≡ Ok (x, left)
    → all ≡ front ++ x ∷ [] → with_front front (actors_from lines) ≡ total → with_front all (actors_from left) ≡ total
unfolding actors_from
actors-more front all [] x left total digit read pushed so_far = absurd cc
actors-more front all (l ∷ ls) x left total digit read pushed so_far =
    let both = in-front-ok (numbers_due START l) x ls left read in
    let one : with_front front (actors_from (l ∷ ls)) ≡ with_front (front ++ x ∷ []) (actors_from ls) = rw (← digit, both.0) (regroup front x (actors_from ls)) in
    rw (pushed, ← both.1) (sym one ∙ so_far)

in-front-err : {A : Type 0} (r : Result A Fault) (e : Fault) (ls left : List (List ℕ)) → in_front r ls ≡ Err (e, left) → (r ≡ Err e) × (ls ≡ left)
in-front-err (Ok y) e ls left is = absurd cc
in-front-err {A} (Err d) e ls left is =
    let both = pair_is (d, ls) (e, left) is in
    (ap (λ (q : Fault × List (List ℕ)). let z : Result A Fault = Err q.0 in z) both, ap (λ (q : Fault × List (List ℕ)). q.1) both)
  where
    pair_is : (a b : Fault × List (List ℕ)) → in_front (let z : Result A Fault = Err a.0 in z) a.1 ≡ in_front (let z : Result A Fault = Err b.0 in z) b.1 → a ≡ b
    pair_is a b e = cc

pub actors-fails : (front : List (List ℕ)) (lines left : List (List ℕ)) (e : Fault) (total : Reads (List (List ℕ))) → true ≡ at_digit lines → (e ≡ Memory) ⊎ (next_by (numbers_due START) lines ≡ Err (e, left))
    → with_front front (actors_from lines) ≡ total → (e ≡ Memory) ⊎ (total ≡ Err (e, left))
unfolding actors_from
actors-fails front lines left e total digit (inl memory) so_far = inl memory
actors-fails front [] left e total digit (inr read) so_far = absurd cc
actors-fails front (l ∷ ls) left e total digit (inr read) so_far =
    let both = in-front-err (numbers_due START l) e ls left read in
    let one : with_front front (actors_from (l ∷ ls)) ≡ Err (e, left) = rw (← digit, both.0, both.1) refl in
    inr (sym so_far ∙ one)

pub actors-ends : (front : List (List ℕ)) (lines : List (List ℕ)) (total : Reads (List (List ℕ))) → false ≡ at_digit lines → with_front front (actors_from lines) ≡ total → total ≡ Ok (front, lines)
unfolding actors_from
actors-ends front [] total digit so_far = sym so_far ∙ ap (λ (xs : List (List ℕ)). fine xs []) (append-nil front)
actors-ends front (l ∷ ls) total digit so_far =
    let one : with_front front (actors_from (l ∷ ls)) ≡ Ok (front, l ∷ ls) = rw (← digit) (ap (λ (xs : List (List ℕ)). fine xs (l ∷ ls)) (append-nil front)) in
    sym so_far ∙ one
