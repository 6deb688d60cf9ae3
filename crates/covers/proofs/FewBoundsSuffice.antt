-- Bounds at some places cover all that the others do: as bounds are added, some are left out, and the best rate rises.
use Rattle.std.proofs.Common.{◌≡◌, ℕ, ◌+◌, ◌≤◌, ◌<◌, ◌⊎◌, inl, inr, ⊎_elim, List, [], ◌∷◌, ◌++◌, length, length-append, take, drop, sym, ◌∙◌, subst, arith}
use Rattle.std.specs.Prelude.{All, Contains, slice_index, slice_index_or}
use Rattle.std.proofs.Math.Seq.{get_or-append_seam}
use Rattle.std.proofs.lemmas.List.{get_or_append_left}
use Rattle.std.proofs.lemmas.List.Elements.{All-cons, All-contains, All-more, All-push, All-weaker, Contains-append_left, Contains-push, Contains-push_cases}
use Rattle.sd_base.proofs.ContainedHavePlaces.{contains-none}
use Rattle.sd_base.specs.declared.numbers.Fraction.{Fraction}
use Rattle.covers.specs.declared.bound.Bound.{Bound}
use Rattle.covers.specs.declared.bound.Cap.{Cap}
use Rattle.covers.specs.Bounds.{AreEnough, Covers, IsAtMost, IsCoveredAt, IsInForce, IsWithin, StandsAt}
use Rattle.covers.specs.inside.Leaving.{AreLeft, Dominates, DominatesAt}
use Rattle.covers.proofs.BoundsStayInForce.{force-on, rates-along}
use Rattle.covers.proofs.BoundsNarrowNodes.{at-any}

-- what keeps to a cap keeps to one of no less capacity on the same channel
within-wider : (ks : List ℕ) (x y : Cap) → x.channel ≡ y.channel → x.capacity ≤ y.capacity → IsWithin ks x → IsWithin ks y
within-wider ks x y same wider within = subst (λ (c : ℕ). slice_index ks c ≤ y.capacity) same (along _ _ _ within wider)
  where
    along : (a b c : ℕ) → a ≤ b → b ≤ c → a ≤ c
    along a b c x y = omega arith

-- so it keeps to the first of some caps, and to all of them if it does to the others
pub within-more : (ks : List ℕ) (left : List Cap) (x d : Cap) → 1 ≤ length left → x.channel ≡ (slice_index_or left 0 d).channel → x.capacity ≤ (slice_index_or left 0 d).capacity → IsWithin ks x → All (IsWithin ks) (drop 1 left) → All (IsWithin ks) left
within-more ks [] x d some same wider within rest = absurd (omega arith)
within-more ks (y ∷ left) x d some same wider within rest = All-cons (IsWithin ks) y left (within-wider ks x y same wider within) rest

-- ---- what stands at places

stands-as : (bounds : List Bound) (places : List ℕ) (P Q : Bound → Type 0) → ((b : Bound) → P b → Q b) → StandsAt bounds places P → StandsAt bounds places Q
stands-as bounds places P Q to s = record { place = s.place; bound = s.bound; among = s.among; below = s.below; here = s.here; has = to s.bound s.has }

-- a bound more stands behind them
stands-on : (bounds : List Bound) (places more : List ℕ) (b : Bound) (P : Bound → Type 0) → (s : StandsAt bounds places P) → Contains more s.place → StandsAt (bounds ++ b ∷ []) more P
stands-on bounds places more b P s among = record {
  place = s.place;
  bound = s.bound;
  among = among;
  below = omega (arith, s.below, length-append bounds (b ∷ []));
  here = get_or_append_left bounds (b ∷ []) s.bound s.place s.below ∙ s.here;
  has = s.has;
}

-- and at its place it is
stands-last : (bounds : List Bound) (left : List ℕ) (b : Bound) (P : Bound → Type 0) → P b → StandsAt (bounds ++ b ∷ []) (left ++ length bounds ∷ []) P
stands-last bounds left b P has = record {
  place = length bounds;
  bound = b;
  among = Contains-push left (length bounds);
  below = omega (arith, length-append bounds (b ∷ []));
  here = get_or-append_seam bounds b [] b;
  has = has;
}

-- ---- places that are enough

pub enough-none : (best : Fraction) → AreEnough [] best []
enough-none best = record { below = λ i d below. absurd (omega arith); each = λ rate ks up c. absurd (contains-none c.0 c.1) }

pub enough-reached : (bounds : List Bound) (best rate : Fraction) (places : List ℕ) → IsAtMost best rate → AreEnough bounds best places → AreEnough bounds rate places
enough-reached bounds best rate places first enough = record {
  below = enough.below;
  each = λ r ks up c. enough.each r ks (rates-along best.num best.den rate.num rate.den r.num r.den rate.positive first up) c;
}

-- a bound is left out that one at the places dominates
pub enough-needless : (bounds : List Bound) (best : Fraction) (places : List ℕ) (b : Bound) → AreEnough bounds best places → StandsAt bounds places (λ (other : Bound). Dominates best other b) → AreEnough (bounds ++ b ∷ []) best places
enough-needless bounds best places b enough stands = record {
  below = λ i d under. omega (arith, enough.below i d under, length-append bounds (b ∷ []));
  each = λ rate ks up c.
      ⊎_elim
      (λ (old : Contains bounds c.0). let s = enough.each rate ks up (c.0, old, c.2, c.3) in stands-on bounds places places b (λ (x : Bound). IsInForce rate x × Covers x ks) s s.among)
      (λ (same : b ≡ c.0).
      let covers : Covers b ks = subst (λ (x : Bound). Covers x ks) (sym same) c.3 in
      let s : IsCoveredAt bounds places rate ks
      = stands-as bounds places (λ (x : Bound). Dominates best x b) (λ (x : Bound). IsInForce rate x × Covers x ks) (λ x d. (force-on best rate x up d.force, d.all ks covers)) stands in
      stands-on bounds places places b (λ (x : Bound). IsInForce rate x × Covers x ks) s s.among)
      (Contains-push_cases bounds b c.0 c.1);
}

-- a bound is added, and leaves out those that it dominates
pub enough-added : (bounds : List Bound) (best : Fraction) (places left : List ℕ) (b : Bound) → AreEnough bounds best places → AreLeft best bounds b places left → AreEnough (bounds ++ b ∷ []) best (left ++ length bounds ∷ [])
enough-added bounds best places left b enough are = record {
  below = All-push (λ (place : ℕ). place < length (bounds ++ b ∷ [])) left (length bounds)
      (λ i d under. omega (arith, are.below i d under, length-append bounds (b ∷ [])))
      (omega (arith, length-append bounds (b ∷ [])));
  each = λ rate ks up c.
      ⊎_elim
      (λ (old : Contains bounds c.0).
      let s = enough.each rate ks up (c.0, old, c.2, c.3) in
      ⊎_elim
      (λ (kept : Contains left s.place). stands-on bounds places (left ++ length bounds ∷ []) b (λ (x : Bound). IsInForce rate x × Covers x ks) s (Contains-append_left left (length bounds ∷ []) s.place kept))
      (λ (at : DominatesAt best bounds b s.place).
      let covers : Covers b ks = (at s.bound).all ks (subst (λ (x : Bound). Covers x ks) (sym s.here) s.has.1) in
      stands-last bounds left b (λ (x : Bound). IsInForce rate x × Covers x ks) (force-on best rate b up (at s.bound).force, covers))
      (All-contains (λ (place : ℕ). Contains left place ⊎ DominatesAt best bounds b place) places s.place are.each s.among))
      (λ (same : b ≡ c.0).
      stands-last bounds left b (λ (x : Bound). IsInForce rate x × Covers x ks) (subst (IsInForce rate) (sym same) c.2, subst (λ (x : Bound). Covers x ks) (sym same) c.3))
      (Contains-push_cases bounds b c.0 c.1);
}

-- ---- places that are left, one by one

pub dominates-at : (best : Fraction) (bounds : List Bound) (b : Bound) (i : ℕ) (other : Bound) → i < length bounds → other ≡ slice_index_or bounds i other → Dominates best b other → DominatesAt best bounds b i
dominates-at best bounds b i other below is so = at-any bounds i other (Dominates best b) below is so

pub left-kept : (best : Fraction) (bounds : List Bound) (b : Bound) (places left : List ℕ) (i : ℕ) → i < length places → slice_index places i < length bounds → AreLeft best bounds b (take i places) left → AreLeft best bounds b (take (i + 1) places) (left ++ slice_index places i ∷ [])
left-kept best bounds b places left i under here are =
    record {
      below = All-push (λ (place : ℕ). place < length bounds) left (slice_index places i) are.below here;
      each = All-more (λ (place : ℕ). Contains (left ++ slice_index places i ∷ []) place ⊎ DominatesAt best bounds b place) places i 0 under
          (All-weaker (λ (place : ℕ). Contains left place ⊎ DominatesAt best bounds b place) (λ (place : ℕ). Contains (left ++ slice_index places i ∷ []) place ⊎ DominatesAt best bounds b place)
          (λ place. ⊎_elim (λ (kept : Contains left place). inl (Contains-append_left left (slice_index places i ∷ []) place kept)) (λ (at : DominatesAt best bounds b place). inr at))
          (take i places) are.each)
          (inl (Contains-push left (slice_index places i)));
    }

pub left-out : (best : Fraction) (bounds : List Bound) (b : Bound) (places left : List ℕ) (i : ℕ) → i < length places → DominatesAt best bounds b (slice_index places i) → AreLeft best bounds b (take i places) left → AreLeft best bounds b (take (i + 1) places) left
left-out best bounds b places left i under at are = record {
  below = are.below;
  each = All-more (λ (place : ℕ). Contains left place ⊎ DominatesAt best bounds b place) places i 0 under are.each (inr at);
}
