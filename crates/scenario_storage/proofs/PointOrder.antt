-- Points that rise, with one more at the end.
use Rattle.std.proofs.Common.{◌≡◌, Bool, true, false, Option, None, Some, ℕ, ◌+◌, ◌-◌, ◌*◌, ◌≤◌, ◌<◌, ◌⊎◌, List, [], ◌∷◌, ◌++◌, length, inl, inr, ⊎_elim, sym, ap, ◌∙◌, subst, arith}
use Rattle.std.specs.List.{AllPairs}
use Rattle.std.specs.Prelude.{◌==◌, All, Contains, MatchBool, option_to_list, slice_index_or}
use Rattle.std.proofs.lemmas.Bool.{cases_lt, true≢false}
use Rattle.std.proofs.lemmas.Bool.Decides.{Decides-eqb}
use Rattle.std.proofs.lemmas.List.{get_or_append_left, get_or-append-add, get_or_default, length-append}
use Rattle.std.proofs.lemmas.List.Elements.{All-contains, Contains-get_or, Contains-push_cases, Contains-append_left}
use Rattle.storage.proofs.FrontsFromMembers.{less_on}
use Rattle.sd_base.specs.declared.numbers.Fraction.{Fraction}
use Rattle.scenario_storage.specs.declared.point.ScenarioPoint.{ScenarioPoint}
use Rattle.scenario_storage.specs.inside.Points.{AreEarlier, AreRising, AreSlower, EndsAt, HasNoSlower, IsBelow, IsLeftOut, IsPut, IsSlower}

-- pairs of a list with one more element
pub pairs-front : {A : Type 0} (R : A → A → Type 0) (xs : List A) (x : A) → AllPairs R (xs ++ x ∷ []) → AllPairs R xs
pairs-front {A = A} R xs x pairs i j d less below =
    subst (λ (b : A). R (slice_index_or xs i d) b) (get_or_append_left xs (x ∷ []) d j below)
    (subst (λ (a : A). R a (slice_index_or (xs ++ x ∷ []) j d)) (get_or_append_left xs (x ∷ []) d i (omega (arith, less, below)))
    (pairs i j d less (omega (arith, below, length-append xs (x ∷ [])))))

pub pairs-last : {A : Type 0} (R : A → A → Type 0) (xs : List A) (x : A) → AllPairs R (xs ++ x ∷ []) → (y : A) → Contains xs y → R y x
pairs-last {A = A} R xs x pairs y (k, below, same) =
    let both : R (slice_index_or (xs ++ x ∷ []) k y) (slice_index_or (xs ++ x ∷ []) (length xs + 0) y) = pairs k (length xs + 0) y (omega (arith, below)) (omega (arith, length-append xs (x ∷ []))) in
    subst (λ (b : A). R y b) (get_or-append-add xs (x ∷ []) 0 y)
    (subst (λ (a : A). R a (slice_index_or (xs ++ x ∷ []) (length xs + 0) y)) (get_or_append_left xs (x ∷ []) y k below ∙ same) both)

pub pairs-push : {A : Type 0} (R : A → A → Type 0) (xs : List A) (x : A) → AllPairs R xs → ((y : A) → Contains xs y → R y x) → AllPairs R (xs ++ x ∷ [])
pairs-push {A = A} R xs x pairs under i j d less below =
    ⊎_elim
    (λ (front : j < length xs).
    subst (λ (b : A). R (slice_index_or (xs ++ x ∷ []) i d) b) (sym (get_or_append_left xs (x ∷ []) d j front))
    (subst (λ (a : A). R a (slice_index_or xs j d)) (sym (get_or_append_left xs (x ∷ []) d i (omega (arith, less, front)))) (pairs i j d less front)))
    (λ (past : length xs ≤ j).
    let last : length xs + 0 ≡ j = omega (arith, below, past, length-append xs (x ∷ [])) in
    let before : i < length xs = omega (arith, less, last) in
    subst (λ (a : A). R a (slice_index_or (xs ++ x ∷ []) j d)) (sym (get_or_append_left xs (x ∷ []) d i before))
    (subst (λ (k : ℕ). R (slice_index_or xs i d) (slice_index_or (xs ++ x ∷ []) k d)) last
    (subst (λ (b : A). R (slice_index_or xs i d) b) (sym (get_or-append-add xs (x ∷ []) 0 d)) (under (slice_index_or xs i d) (Contains-get_or xs i d before)))))
    (cases_lt j (length xs))

-- of points that rise the last one has the greatest rate and storage
module _ (ps : List ScenarioPoint) (last : ScenarioPoint) (rising : AreRising ps) (is : last ≡ slice_index_or ps (length ps - 1) last) where
  pub one-below : (p : ScenarioPoint) → Contains ps p → (p ≡ last) ⊎ IsBelow p last
  one-below p (k, below, same) =
      let end : slice_index_or ps (length ps - 1) p ≡ last = get_or_default ps (length ps - 1) p last (omega (arith, below)) ∙ sym is in
      ⊎_elim
      (λ (front : k < length ps - 1). inr (subst (λ (b : ScenarioPoint). IsBelow p b) end (subst (λ (a : ScenarioPoint). IsBelow a (slice_index_or ps (length ps - 1) p)) same (rising k (length ps - 1) p front (omega (arith, below))))))
      (λ (past : length ps - 1 ≤ k). inl (sym same ∙ (ap (λ (n : ℕ). slice_index_or ps n p) (let e : k ≡ length ps - 1 = omega (arith, past, below) in e) ∙ end)))
      (cases_lt k (length ps - 1))

  pub slower-all : (rate : Fraction) → IsSlower last.rate rate → AreSlower rate ps
  slower-all rate slower p one =
      ⊎_elim
      (λ (h : p ≡ last). subst (λ (x : ScenarioPoint). IsSlower x.rate rate) (sym h) slower)
      (λ (h : IsBelow p last). less_on p.rate.num p.rate.den last.rate.num last.rate.den rate.num rate.den p.rate.positive last.rate.positive rate.positive h.1 (omega (arith, slower)))
      (one-below p one)

  pub early-all : (total : ℕ) → last.total < total → AreEarlier total ps
  early-all total less p one =
      ⊎_elim
      (λ (h : p ≡ last). subst (λ (x : ScenarioPoint). x.total < total) (sym h) less)
      (λ (h : IsBelow p last). omega (arith, h.0, less))
      (one-below p one)

pub last-there : (ps : List ScenarioPoint) (last : ScenarioPoint) → 1 ≤ length ps → last ≡ slice_index_or ps (length ps - 1) last → Contains ps last
last-there ps last some is = (length ps - 1, omega (arith, some), sym is)

-- the last point is left out, or all stay
pub left-last : (total : ℕ) (old front : List ScenarioPoint) (last : ScenarioPoint) → old ≡ front ++ last ∷ [] → AreRising old → last.total ≡ total → IsLeftOut total old front
left-last total old front last is rising same = subst (λ (ps : List ScenarioPoint). IsLeftOut total ps front) (sym is) (record {
  rising = pairs-front IsBelow front last both;
  early = λ p one. let under = pairs-last IsBelow front last both p one in omega (arith, under.0, same);
  among = λ p one. Contains-append_left front (last ∷ []) p one;
  left = λ p one.
      ⊎_elim
      (λ (h : Contains front p). inl h)
      (λ (h : last ≡ p). inr (ap (λ (x : ScenarioPoint). x.total) (sym h) ∙ same))
      (Contains-push_cases front last p one);
})
  where
    both : AreRising (front ++ last ∷ [])
    both = subst AreRising is rising

pub left-all : (total : ℕ) (ps : List ScenarioPoint) → AreRising ps → AreEarlier total ps → IsLeftOut total ps ps
left-all total ps rising early = record { rising = rising; early = early; among = λ p one. one; left = λ p one. inl one }

-- a point that is put rises above what is left
pub put-rising : (point : ScenarioPoint) (old new : List ScenarioPoint) → IsPut point old new → AreRising new
put-rising point old new put =
    subst AreRising (sym put.is)
    (pairs-push IsBelow put.front point put.left.rising (λ p one. (put.left.early p one, put.slower p (put.left.among p one))))

-- what is said of the last point is said of all
pub above-by : (b : Bool) (rate : Fraction) (ps : List ScenarioPoint) (last : ScenarioPoint) → AreRising ps → 1 ≤ length ps →
    last ≡ slice_index_or ps (length ps - 1) last → MatchBool b (IsSlower last.rate rate) (rate.num * last.rate.den ≤ last.rate.num * rate.den) →
    MatchBool b (AreSlower rate ps) (HasNoSlower rate ps)
above-by true rate ps last rising some is slower = slower-all ps last rising is rate slower
above-by false rate ps last rising some is fast = (last, last-there ps last some is, fast)

pub ends-by : (b : Bool) (total : ℕ) (ps : List ScenarioPoint) (last : ScenarioPoint) → AreRising ps → All (λ (p : ScenarioPoint). p.total ≤ total) ps → 1 ≤ length ps →
    last ≡ slice_index_or ps (length ps - 1) last → (b ≡ (last.total == total)) → MatchBool b (EndsAt total ps) (AreEarlier total ps)
ends-by true total ps last rising late some is test =
    let same : last.total ≡ total = (Decides-eqb last.total total).0 (sym test) in
    (some, λ p end. let one : p ≡ last = sym end ∙ (get_or_default ps (length ps - 1) p last (omega (arith, some)) ∙ sym is) in ap (λ (x : ScenarioPoint). x.total) one ∙ same)
ends-by false total ps last rising late some is test =
    let most : last.total ≤ total = All-contains (λ (p : ScenarioPoint). p.total ≤ total) ps last late (last-there ps last some is) in
    let apart : last.total ≡ total → ⊥ = λ same. true≢false (sym ((Decides-eqb last.total total).1 same) ∙ sym test) in
    early-all ps last rising is total (⊎_elim (λ (h : last.total < total). h) (λ (h : total ≤ last.total). absurd (apart (omega (arith, most, h)))) (cases_lt last.total total))

-- the last point was taken off
pub left-popped : (total : ℕ) (old new : List ScenarioPoint) (taken : Option ScenarioPoint) (long : ℕ) → long ≡ length old → AreRising old → EndsAt total old →
    old ≡ new ++ option_to_list taken → ((d : ScenarioPoint) → 0 < long → taken ≡ Some (slice_index_or old (long - 1) d)) → IsLeftOut total old new
left-popped total old new None long many rising ends is value =
    absurd (by old new is ends (λ d some. subst (λ (n : ℕ). None ≡ Some (slice_index_or old (n - 1) d)) many (value d (omega (arith, some, many)))))
  where
    by : (xs ys : List ScenarioPoint) → xs ≡ ys ++ [] → EndsAt total xs → ((d : ScenarioPoint) → 0 < length xs → None ≡ Some (slice_index_or xs (length xs - 1) d)) → ⊥
    by [] ys same end none = omega (arith, end.0)
    by (x ∷ xs) ys same end none = let no = none x (omega arith) in cc
left-popped total old new (Some last) long many rising ends is value =
    let low : 0 < long = omega (arith, ends.0, many) in
    let got : ◌≡◌ {A = Option ScenarioPoint} (Some last) (Some (slice_index_or old (length old - 1) last)) =
    subst (λ (n : ℕ). Some last ≡ Some (slice_index_or old (n - 1) last)) many (value last low) in
    let same : slice_index_or old (length old - 1) last ≡ last = cc in
    left-last total old new last is rising (ends.1 last same)
