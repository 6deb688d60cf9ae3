-- What a bound that holds says of a node, bound by bound.
use Rattle.std.proofs.Common.{◌≡◌, ℕ, ◌+◌, ◌≤◌, ◌<◌, inl, inr, ⊎_elim, List, [], ◌∷◌, ◌++◌, length, length-append, take, sym, ◌∙◌, subst, arith}
use Rattle.std.specs.Prelude.{All, slice_index, slice_index_or}
use Rattle.std.proofs.lemmas.List.{get_or_default, take_all}
use Rattle.std.proofs.lemmas.List.Elements.{All-contains, All-more, All-nil, All-push}
use Rattle.sd_base.specs.declared.numbers.Fraction.{Fraction}
use Rattle.covers.specs.declared.lattice.Lattice.{Lattice}
use Rattle.covers.specs.declared.bound.Bound.{Bound}
use Rattle.covers.specs.declared.node.Node.{Node}
use Rattle.covers.specs.declared.survey.Toll.{Toll}
use Rattle.covers.specs.declared.ways.Way.{Way}
use Rattle.covers.specs.Bounds.{AreEnough, Covers, IsCovered, IsInForce, IsWithin}
use Rattle.covers.specs.inside.Ways.{IsInside, IsOnlyWay, IsToll}
use Rattle.covers.specs.inside.Surveys.{AllCovered, AreTolls, CoversNothing, Holds, HoldsNot, IsNarrowing, IsTollAt}

pub covered-here : (bounds : List Bound) (best : Fraction) (i : ℕ) (b : Bound) (ks : List ℕ) → i < length bounds → b ≡ slice_index_or bounds i b → IsInForce best b → Covers b ks → IsCovered bounds best ks
covered-here bounds best i b ks below is force covers = (b, (i, below, sym is), force, covers)

-- the bound covers all of the node
pub closed-here : (lattice : Lattice) (bounds : List Bound) (best : Fraction) (n : Node) (i : ℕ) (b : Bound) → i < length bounds → b ≡ slice_index_or bounds i b → Holds best n b → ((ks : List ℕ) → IsInside lattice n ks → All (IsWithin ks) b.caps) → AllCovered lattice bounds best n
closed-here lattice bounds best n i b below is holds all = λ ks i'. covered-here bounds best i b ks below is holds.force (all ks i')

-- the bound has one way out
pub narrow-here : (lattice : Lattice) (bounds : List Bound) (best : Fraction) (n : Node) (i : ℕ) (b : Bound) (w : Way) → i < length bounds → b ≡ slice_index_or bounds i b → Holds best n b → IsOnlyWay lattice n b.caps w → IsNarrowing lattice bounds best n w
narrow-here lattice bounds best n i b w below is holds only = record {
  left = λ ks i'. ⊎_elim (λ (h : All (IsWithin ks) b.caps). inl (covered-here bounds best i b ks below is holds.force h)) (λ (h : w.capacity ≤ slice_index ks w.channel). inr h) (only.left ks i');
  above = only.above;
  room = only.room;
}

pub at-any : (bounds : List Bound) (i : ℕ) (b : Bound) (P : Bound → Type 0) → i < length bounds → b ≡ slice_index_or bounds i b → P b → (d : Bound) → P (slice_index_or bounds i d)
at-any bounds i b P below is p d = subst P (is ∙ get_or_default bounds i b d below) p

-- no bound is looked at
pub tolls-none : (lattice : Lattice) (bounds : List Bound) (best : Fraction) (n : Node) → AreTolls lattice bounds best n [] []
tolls-none lattice bounds best n = record { each = All-nil (IsTollAt lattice bounds best n); none = λ _. All-nil (HoldsNot bounds best n) }

-- a bound that doesn't hold
pub tolls-past : (lattice : Lattice) (bounds : List Bound) (best : Fraction) (n : Node) (places : List ℕ) (i : ℕ) (b : Bound) (tolls : List Toll) → i < length places → slice_index places i < length bounds → b ≡ slice_index_or bounds (slice_index places i) b → (Holds best n b → ⊥) →
    AreTolls lattice bounds best n (take i places) tolls → AreTolls lattice bounds best n (take (i + 1) places) tolls
tolls-past lattice bounds best n places i b tolls under below is not old = record {
  each = old.each;
  none = λ empty. All-more (HoldsNot bounds best n) places i 0 under (old.none empty) (at-any bounds (slice_index places i) b (λ (x : Bound). Holds best n x → ⊥) below is not);
}

-- one that does, with several ways out
pub tolls-more : (lattice : Lattice) (bounds : List Bound) (best : Fraction) (n : Node) (places : List ℕ) (i : ℕ) (b : Bound) (t : Toll) (tolls : List Toll) → slice_index places i < length bounds → b ≡ slice_index_or bounds (slice_index places i) b → Holds best n b → t.place ≡ slice_index places i → All (IsToll lattice n t.cost) b.caps →
    AreTolls lattice bounds best n (take i places) tolls → AreTolls lattice bounds best n (take (i + 1) places) (tolls ++ t ∷ [])
tolls-more lattice bounds best n places i b t tolls below is holds at paid old = record {
  each = All-push (IsTollAt lattice bounds best n) tolls t old.each (record {
    place = omega (arith, at, below);
    holds = λ d. subst (λ (j : ℕ). Holds best n (slice_index_or bounds j d)) (sym at) (at-any bounds (slice_index places i) b (Holds best n) below is holds d);
    paid = λ d. subst (λ (j : ℕ). All (IsToll lattice n t.cost) (slice_index_or bounds j d).caps) (sym at) (at-any bounds (slice_index places i) b (λ (x : Bound). All (IsToll lattice n t.cost) x.caps) below is paid d);
  });
  none = λ empty. absurd (omega (arith, empty, length-append tolls (t ∷ [])));
}

-- all that were to be looked at
pub tolls-all : (lattice : Lattice) (bounds : List Bound) (best : Fraction) (n : Node) (places : List ℕ) (i : ℕ) (tolls : List Toll) → length places ≤ i → AreTolls lattice bounds best n (take i places) tolls → AreTolls lattice bounds best n places tolls
tolls-all lattice bounds best n places i tolls past old = subst (λ (ps : List ℕ). AreTolls lattice bounds best n ps tolls) (take_all i places past) old

-- no bound at all holds, where those at the places are enough
pub covers-nothing : (lattice : Lattice) (bounds : List Bound) (best : Fraction) (n : Node) (places : List ℕ) (tolls : List Toll) → AreEnough bounds best places → AreTolls lattice bounds best n places tolls → length tolls ≡ 0 → CoversNothing bounds best n.lo.items
covers-nothing lattice bounds best n places tolls enough are empty = λ c.
    let s = enough.each best n.lo.items (level _) c in
    let not : HoldsNot bounds best n s.place = All-contains (HoldsNot bounds best n) places s.place (are.none empty) s.among in
    let holds : Holds best n s.bound = record { force = s.has.0; covers = s.has.1 } in
    not s.bound (subst (Holds best n) (sym s.here) holds)
  where
    level : (x : ℕ) → x ≤ x
    level x = omega arith
