-- As many steps from actor to actor as there are actors lead to one to which further steps come back.
use Rattle.std.proofs.Common.{◌≡◌, ◌≢◌, ℕ, zero, suc, ◌+◌, ◌-◌, ◌≤◌, ◌<◌, eqb, false, true, Option, None, Some, List, [], ◌∷◌, ◌++◌, length, ⊎_elim, sym, ap, refl, subst, ◌∙◌, ne_eqb, arith}
use Rattle.std.specs.Prelude.{slice_index_or}
use Rattle.std.specs.List.{AllByRecursion, IsDistinct, list_any}
use Rattle.std.proofs.lemmas.Bool.{cases_lt, eqb-true}
use Rattle.std.proofs.lemmas.List.{length-append, get_or_append_left, get_or_past}
use Rattle.std.proofs.lemmas.Map.Steps.{length-le_from_distinct_below}
use Rattle.std.proofs.Math.Seq.{get_or-append_seam}
use Rattle.sd_base.specs.Net.{Net, channel_at}
use Rattle.sd_base.proofs.ElementsKeepPlaces.{any-place}
use Rattle.circular_waits.specs.inside.Following.{source_of, awaited, after, IsNamed, AreNamedFrom, ComesBack, IsFollowed, IsRoundFrom}

module _ (net : Net) (lacks : List (Option ℕ)) where
  pub after-add : (m n a : ℕ) → after net lacks (m + n) a ≡ after net lacks m (after net lacks n a)
  after-add zero n a = let e : 0 + n ≡ n = omega arith in ap (λ (k : ℕ). after net lacks k a) e
  after-add (suc m) n a = let e : suc m + n ≡ suc (m + n) = omega arith in ap (λ (k : ℕ). after net lacks k a) e ∙ ap (awaited net lacks) (after-add m n a)

  -- the first n actors on the way from a
  trail : ℕ → ℕ → List ℕ
  trail zero a = []
  trail (suc n) a = after net lacks n a ∷ trail n a

  trail-long : (n a : ℕ) → length (trail n a) ≡ n
  unfolding trail
  trail-long zero a = refl
  trail-long (suc n) a = let e : length (trail n a) ≡ n = trail-long n a in omega arith

  trail-small : (a most : ℕ) → ((j : ℕ) → after net lacks j a < most) → (n i : ℕ) → i < length (trail n a) → slice_index_or (trail n a) i 0 < most
  unfolding trail
  trail-small a most small zero i below = absurd (omega arith)
  trail-small a most small (suc n) zero below = small n
  trail-small a most small (suc n) (suc i) below = trail-small a most small n i (omega arith)

  trail-other : (a x n : ℕ) → ((k : ℕ) → k < n → x ≢ after net lacks k a) → AllByRecursion (λ (y : ℕ). eqb x y ≡ false) (trail n a)
  unfolding trail
  trail-other a x zero other = tt
  trail-other a x (suc n) other = (ne_eqb x (after net lacks n a) (other n (omega arith)), trail-other a x n (λ k h. other k (omega arith)))

  trail-distinct : (a n : ℕ) → ((k j : ℕ) → k < j → j < n → after net lacks j a ≢ after net lacks k a) → IsDistinct eqb (trail n a)
  unfolding trail IsDistinct
  trail-distinct a zero differ = tt
  trail-distinct a (suc n) differ = (trail-other a (after net lacks n a) n (λ k h. differ k n h (omega arith)), trail-distinct a n (λ k j h g. differ k j h (omega arith)))

  -- numbers below n can't all differ on a way of n steps
  two-meet : (a n : ℕ) → ((j : ℕ) → after net lacks j a < n) → ((k j : ℕ) → k < j → j < suc n → after net lacks j a ≢ after net lacks k a) → ⊥
  two-meet a n small differ =
      let long : length (trail (suc n) a) ≡ suc n = trail-long (suc n) a in
      let few : length (trail (suc n) a) ≤ n = length-le_from_distinct_below (trail (suc n) a) n (trail-distinct a (suc n) differ) inside in
      omega arith
    where
      inside : (q : ℕ) → list_any (eqb q) (trail (suc n) a) ≡ true → q < n
      inside q there =
          let at = any-place (eqb q) 0 (trail (suc n) a) there in
          let is : q ≡ slice_index_or (trail (suc n) a) at.0 0 = eqb-true q (slice_index_or (trail (suc n) a) at.0 0) at.2 in
          let below : slice_index_or (trail (suc n) a) at.0 0 < n = trail-small a n small (suc n) at.0 at.1 in
          omega arith

  pub comes-back : (a : ℕ) → ((j : ℕ) → after net lacks j a < length net.times) → ComesBack net lacks (after net lacks (length net.times) a)
  comes-back a small away = two-meet a (length net.times) small differ
    where
      differ : (k j : ℕ) → k < j → j < suc (length net.times) → after net lacks j a ≢ after net lacks k a
      differ k j less within same =
          let n : ℕ = length net.times in
          let start : ℕ = after net lacks n a in
          let middle : ℕ = after net lacks k a in
          let e : n ≡ (n - k) + k = omega arith in
          let from : start ≡ after net lacks (n - k) middle = ap (λ (m : ℕ). after net lacks m a) e ∙ after-add (n - k) k a in
          let f : (j - k) + (n - k) ≡ (n - k) + (j - k) = omega arith in
          let g : (j - k) + k ≡ j = omega arith in
          let again : after net lacks (j - k) middle ≡ middle = sym (after-add (j - k) k a) ∙ (ap (λ (m : ℕ). after net lacks m a) g ∙ same) in
          let turn : after net lacks (j - k) (after net lacks (n - k) middle) ≡ after net lacks (n - k) (after net lacks (j - k) middle) =
          sym (after-add (j - k) (n - k) middle) ∙ (ap (λ (m : ℕ). after net lacks m middle) f ∙ after-add (n - k) (j - k) middle) in
          let back : after net lacks (j - k) start ≡ start = ap (after net lacks (j - k)) from ∙ (turn ∙ (ap (after net lacks (n - k)) again ∙ sym from)) in
          away (j - k) (omega arith) (omega arith) back

  pub named-below : (a : ℕ) → IsNamed net lacks a → a < length lacks
  named-below a named = ⊎_elim
      (λ (below : a < length lacks). below)
      (λ (past : length lacks ≤ a). absurd (
      let none : None ≡ Some named.0 = sym (get_or_past lacks a None past) ∙ named.2 in
      cc))
      (cases_lt a (length lacks))

  pub named-here : (start : ℕ) (channels : List ℕ) (a : ℕ) → IsFollowed net lacks start channels a → AreNamedFrom net lacks start → IsNamed net lacks a
  named-here start channels a so named = subst (IsNamed net lacks) (sym so.reached) (named (length channels))

  -- one more channel
  pub follow-on : (start : ℕ) (channels : List ℕ) (a i : ℕ) → IsFollowed net lacks start channels a → (0 < length channels → a ≢ start) →
      slice_index_or lacks a None ≡ Some i → IsFollowed net lacks start (channels ++ i ∷ []) (channel_at net i).source
  follow-on start channels a i so away is = record {
    reached = sym (ap (λ (m : ℕ). after net lacks m start) long ∙ (ap (awaited net lacks) (sym so.reached) ∙ ap (source_of net a) is));
    named = λ j below. ⊎_elim
        (λ (before : j < length channels). so.named j before ∙ ap Some (sym (get_or_append_left channels (i ∷ []) 0 j before)))
        (λ (last : length channels ≤ j).
        let same : j ≡ length channels = omega (arith, long) in
        rw same (ap (λ (b : ℕ). slice_index_or lacks b None) (sym so.reached) ∙ (is ∙ ap Some (sym (get_or-append_seam channels i [] 0)))))
        (cases_lt j (length channels));
    apart = λ n some below. ⊎_elim
        (λ (before : n < length channels). so.apart n some before)
        (λ (last : length channels ≤ n) back.
        let same : n ≡ length channels = omega (arith, long) in
        away (omega arith) (so.reached ∙ (ap (λ (m : ℕ). after net lacks m start) (sym same) ∙ back)))
        (cases_lt n (length channels));
  }
    where
      long : length (channels ++ i ∷ []) ≡ suc (length channels)
      long = let e : length (channels ++ i ∷ []) ≡ length channels + 1 = length-append channels (i ∷ []) in omega arith

  -- and where that leads back to the start, the round is closed
  pub closes-round : (start : ℕ) (channels : List ℕ) (a i : ℕ) → IsFollowed net lacks start channels a → (0 < length channels → a ≢ start) →
      slice_index_or lacks a None ≡ Some i → (channel_at net i).source ≡ start → IsRoundFrom net lacks start (channels ++ i ∷ [])
  closes-round start channels a i so away is back = record {
    some = let e : length (channels ++ i ∷ []) ≡ length channels + 1 = length-append channels (i ∷ []) in omega arith;
    followed = subst (IsFollowed net lacks start (channels ++ i ∷ [])) back (follow-on start channels a i so away is);
  }
