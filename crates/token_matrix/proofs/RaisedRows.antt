-- The latest of rows.
use Rattle.std.proofs.Common.{◌≡◌, ℕ, zero, suc, ◌+◌, ◌-◌, ◌≤◌, ◌<◌, ◌⊎◌, max, List, [], ◌∷◌, ◌++◌, length, take, drop, set, replicate, Option, Some, None, refl, sym, ap, subst, ◌∙◌, inl, inr, ⊎_elim, arith, length-append}
use Rattle.std.specs.Prelude.{slice_index_or}
use Rattle.std.proofs.lemmas.Bool.{cases_lt}
use Rattle.std.proofs.lemmas.List.{get_or_append_left, get_or-append_right, get_or-replicate, length-replicate}
use Rattle.token_matrix.specs.inside.LaterRows.{later, later_row, Reaches, IsRaised}

pub later_row-long : (a b : List (Option ℕ)) → length a ≡ length b → length (later_row a b) ≡ length a
later_row-long [] b same = refl
later_row-long (x ∷ a) [] same = absurd (let no : ⊥ = omega arith in no)
later_row-long (x ∷ a) (y ∷ b) same = ap suc (later_row-long a b (omega arith))

pub later_row-left : (a b : List (Option ℕ)) (p x : ℕ) → slice_index_or a p None ≡ Some x → Reaches (later_row a b) p x
later_row-left [] b p x at = absurd (cc)
later_row-left (o ∷ a) [] p x at = (x, at, omega arith)
later_row-left (None ∷ a) (y ∷ b) zero x at = absurd (cc)
later_row-left (Some o ∷ a) (None ∷ b) zero x at = (x, at, omega arith)
later_row-left (Some o ∷ a) (Some y ∷ b) zero x at = let e : o ≡ x = cc in (max o y, refl, omega arith)
later_row-left (o ∷ a) (y ∷ b) (suc p) x at = later_row-left a b p x at

pub later_row-right : (a b : List (Option ℕ)) (p x : ℕ) → length a ≡ length b → slice_index_or b p None ≡ Some x → Reaches (later_row a b) p x
later_row-right [] [] p x same at = absurd (cc)
later_row-right [] (y ∷ b) p x same at = absurd (let no : ⊥ = omega arith in no)
later_row-right (o ∷ a) [] p x same at = absurd (cc)
later_row-right (None ∷ a) (y ∷ b) zero x same at = (x, at, omega arith)
later_row-right (Some o ∷ a) (None ∷ b) zero x same at = absurd (cc)
later_row-right (Some o ∷ a) (Some y ∷ b) zero x same at = let e : y ≡ x = cc in (max o y, refl, omega arith)
later_row-right (o ∷ a) (y ∷ b) (suc p) x same at = later_row-right a b p x (omega arith) at

pub later_row-one : (a b : List (Option ℕ)) (p d : ℕ) → slice_index_or (later_row a b) p None ≡ Some d → (slice_index_or a p None ≡ Some d) ⊎ (slice_index_or b p None ≡ Some d)
later_row-one [] b p d at = inl at
later_row-one (o ∷ a) [] p d at = inl at
later_row-one (None ∷ a) (y ∷ b) zero d at = inr at
later_row-one (Some o ∷ a) (None ∷ b) zero d at = inl at
later_row-one (Some o ∷ a) (Some y ∷ b) zero d at =
    let m : max o y ≡ d = cc in
    ⊎_elim (λ (h : o < y). inr (let e : y ≡ d = omega arith in ap Some e)) (λ (h : y ≤ o). inl (let e : o ≡ d = omega arith in ap Some e)) (cases_lt o y)
later_row-one (o ∷ a) (y ∷ b) (suc p) d at = later_row-one a b p d at

-- ---- entry by entry

more : (a b : List (Option ℕ)) (i : ℕ) (x : Option ℕ) → i < length a → length a ≡ length b → x ≡ later (slice_index_or a i None) (slice_index_or b i None)
    → take (suc i) (set a i x) ++ later_row (drop (suc i) (set a i x)) (drop (suc i) b) ≡ take i a ++ later_row (drop i a) (drop i b)
more [] b i x below same is = absurd (omega arith)
more (y ∷ a) [] i x below same is = absurd (omega arith)
more (y ∷ a) (z ∷ b) zero x below same is = ap (λ (o : Option ℕ). o ∷ later_row a b) is
more (y ∷ a) (z ∷ b) (suc i) x below same is = ap (λ (r : List (Option ℕ)). y ∷ r) (more a b i x (omega arith) (omega arith) is)

-- one place more is raised
pub raised_more : (a b : List (Option ℕ)) (i : ℕ) (x : Option ℕ) → i < length a → length a ≡ length b → x ≡ later (slice_index_or a i None) (slice_index_or b i None)
    → take (i + 1) (set a i x) ++ later_row (drop (i + 1) (set a i x)) (drop (i + 1) b) ≡ take i a ++ later_row (drop i a) (drop i b)
raised_more a b i x below same is = subst (λ (n : ℕ). take n (set a i x) ++ later_row (drop n (set a i x)) (drop n b) ≡ take i a ++ later_row (drop i a) (drop i b)) (let e : suc i ≡ i + 1 = omega arith in e) (more a b i x below same is)

-- ---- rows of a list

pub raised_none : (a : List (Option ℕ)) → IsRaised [] a a
raised_none a = record {
  long = refl;
  kept = λ p e at. (e, at, omega arith);
  raised = λ k p e below at. absurd (omega arith);
  just = λ p e at. inl at;
}

-- one row, however often
pub raised_one : (n : ℕ) (row a : List (Option ℕ)) → 1 ≤ n → length a ≡ length row → IsRaised (replicate n row) a (later_row a row)
raised_one n row a some same = record {
  long = later_row-long a row same;
  kept = λ p e at. later_row-left a row p e at;
  raised = λ k p e below at. later_row-right a row p e same (subst (λ (r : List (Option ℕ)). slice_index_or r p None ≡ Some e) (get_or-replicate n k row [] (omega (arith, length-replicate n row))) at);
  just = λ p e at. (elim (later_row-one a row p e at) [
    | inl old ↦ inl old
    | inr new ↦ inr (0, (omega (arith, length-replicate n row)), subst (λ (r : List (Option ℕ)). slice_index_or r p None ≡ Some e) (sym (get_or-replicate n 0 row [] some)) new)
  ]);
}

-- one list after another
pub raised_both : (xs ys : List (List (Option ℕ))) (a b c : List (Option ℕ)) → IsRaised xs a b → IsRaised ys b c → IsRaised (xs ++ ys) a c
raised_both xs ys a b c first then = record {
  long = then.long ∙ first.long;
  kept = λ p e at. on p e (first.kept p e at);
  raised = λ k p e below at. ⊎_elim
      (λ (old : k < length xs). on p e (first.raised k p e old (subst (λ (r : List (Option ℕ)). slice_index_or r p None ≡ Some e) (get_or_append_left xs ys [] k old) at)))
      (λ (new : length xs ≤ k). then.raised (k - length xs) p e (omega (arith, length-append xs ys)) (subst (λ (r : List (Option ℕ)). slice_index_or r p None ≡ Some e) (get_or-append_right xs ys (length xs) k [] refl new) at))
      (cases_lt k (length xs));
  just = λ p e at. (elim (then.just p e at) [
    | inl old ↦ (elim (first.just p e old) [
      | inl older ↦ inl older
      | inr (k, below, is) ↦ inr (k, (omega (arith, length-append xs ys)), subst (λ (r : List (Option ℕ)). slice_index_or r p None ≡ Some e) (sym (get_or_append_left xs ys [] k below)) is)
    ])
    | inr (k, below, is) ↦ inr (length xs + k, (omega (arith, length-append xs ys)), subst (λ (r : List (Option ℕ)). slice_index_or r p None ≡ Some e) (sym (at_end k)) is)
  ]);
}
  where
    on : (p e : ℕ) → Reaches b p e → Reaches c p e
    on p e (d, at, le) = let r = then.kept p d at in (r.0, r.1, (let h : e ≤ r.0 = omega (arith, r.2) in h))

    at_end : (k : ℕ) → slice_index_or (xs ++ ys) (length xs + k) [] ≡ slice_index_or ys k []
    at_end k = get_or-append_right xs ys (length xs) (length xs + k) [] refl (omega arith) ∙ ap (λ (n : ℕ). slice_index_or ys n []) (let e : length xs + k - length xs ≡ k = omega arith in e)
