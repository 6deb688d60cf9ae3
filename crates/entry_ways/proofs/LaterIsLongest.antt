-- The later of the longest links of two kinds is the longest of both.
use Rattle.std.proofs.Common.{◌≡◌, ℕ, ◌≤◌, ◌<◌, ◌⊎◌, max, Option, None, Some, inl, inr, ⊎_elim, subst, ap, refl, arith}
use Rattle.std.proofs.lemmas.Bool.{cases_lt}
use Rattle.entry_ways.specs.inside.Columns.{IsLongest, later}

-- what has no link
pub longest-none : (P : ℕ → Type 0) → ((t : ℕ) → P t → ⊥) → IsLongest P None
longest-none P none = record { just = λ t at. absurd (cc); top = λ t is. absurd (none t is) }

-- what has one
pub longest-one : (P : ℕ → Type 0) (s : ℕ) → P s → ((t : ℕ) → P t → t ≤ s) → IsLongest P (Some s)
longest-one P s is most = record {
  just = λ t at. subst P (let e : s ≡ t = cc in e) is;
  top = λ t has. (s, refl, most t has);
}

-- the same links
pub longest-same : (P Q : ℕ → Type 0) (s : Option ℕ) → ((t : ℕ) → P t → Q t) → ((t : ℕ) → Q t → P t) → IsLongest P s → IsLongest Q s
longest-same P Q s to back is = record { just = λ t at. to t (is.just t at); top = λ t has. is.top t (back t has) }

-- those of two kinds
pub longest-both : (P Q : ℕ → Type 0) (s e : Option ℕ) → IsLongest P s → IsLongest Q e → IsLongest (λ t. P t ⊎ Q t) (later s e)
longest-both P Q None e first second = record {
  just = λ t at. inr (second.just t at);
  top = λ t has. ⊎_elim (λ (p : P t). absurd (let d = first.top t p in let h : ◌≡◌ {A = Option ℕ} None (Some d.0) = d.1 in (cc))) (λ (q : Q t). second.top t q) has;
}
longest-both P Q (Some x) None first second = record {
  just = λ t at. inl (first.just t at);
  top = λ t has. ⊎_elim (λ (p : P t). first.top t p) (λ (q : Q t). absurd (let d = second.top t q in let h : ◌≡◌ {A = Option ℕ} None (Some d.0) = d.1 in (cc))) has;
}
longest-both P Q (Some x) (Some y) first second = record {
  just = λ t at. (let is : max x y ≡ t = cc in ⊎_elim
      (λ (less : x < y). inr (second.just t (ap Some (let e : y ≡ t = omega arith in e))))
      (λ (more : y ≤ x). inl (first.just t (ap Some (let e : x ≡ t = omega arith in e))))
      (cases_lt x y));
  top = λ t has. (
    max x y,
    refl,
    ⊎_elim
        (λ (p : P t). (let d = first.top t p in let e : x ≡ d.0 = (let h : ◌≡◌ {A = Option ℕ} (Some x) (Some d.0) = d.1 in (cc)) in let f : t ≤ max x y = omega (arith, d.2) in f))
        (λ (q : Q t). (let d = second.top t q in let e : y ≡ d.0 = (let h : ◌≡◌ {A = Option ℕ} (Some y) (Some d.0) = d.1 in (cc)) in let f : t ≤ max x y = omega (arith, d.2) in f))
        has,
  );
}
