-- What is left of a node that was looked at.
use Rattle.std.proofs.Common.{◌≡◌, ℕ, ◌≤◌, ◌<◌, List, [], ◌∷◌, inl, inr, ⊎_elim, refl, subst, arith}
use Rattle.std.specs.Prelude.{length}
use Rattle.sd_base.specs.declared.numbers.Fraction.{Fraction}
use Rattle.covers.specs.declared.lattice.Lattice.{Lattice}
use Rattle.covers.specs.declared.bound.Bound.{Bound}
use Rattle.covers.specs.declared.node.Node.{Node}
use Rattle.covers.specs.declared.search.Search.{Search}
use Rattle.covers.specs.declared.search.Order.{Order}
use Rattle.covers.specs.declared.search.Order.TheVariants.{Storage, Lexicographic}
use Rattle.covers.specs.declared.survey.Toll.{Toll}
use Rattle.covers.specs.Lattices.{storage_of}
use Rattle.covers.specs.Bounds.{AreEnough, IsCovered}
use Rattle.covers.specs.Nodes.{IsProper}
use Rattle.covers.specs.inside.Ways.{IsInside}
use Rattle.covers.specs.inside.Surveys.{AllCovered, AreTolls, IsLeast}
use Rattle.covers.specs.inside.Keeping.{IsBranched, IsFound, IsRank, known, put_all}
use Rattle.covers.proofs.NoVectorIsLost.{raised}
use Rattle.covers.proofs.StorageRises.{storage-le}
use Rattle.covers.proofs.BoundsNarrowNodes.{covers-nothing}

-- each vector in the node needs at least the storage of its least one
pub lo-least : (lattice : Lattice) (n : Node) (ks : List ℕ) → IsInside lattice n ks → storage_of lattice.axes n.lo.items ≤ storage_of lattice.axes ks
lo-least lattice n ks i = storage-le lattice.axes n.lo.items ks i.among.on.long i.between.above

over : (a b c : ℕ) → a < b → b ≤ c → c ≤ a → ⊥
over a b c x y z = omega arith

along : (a b c : ℕ) → a ≤ b → b ≤ c → a ≤ c
along a b c x y = omega arith

-- a node that begins beyond the limit
pub beyond : (lattice : Lattice) (bounds : List Bound) (best : Fraction) (n : Node) → lattice.limit < storage_of lattice.axes n.lo.items → AllCovered lattice bounds best n
beyond lattice bounds best n far = λ ks i. absurd (over _ _ _ far (lo-least lattice n ks i) i.among.within)

-- one whose rest needs more than the limit
pub dear : (lattice : Lattice) (bounds : List Bound) (best : Fraction) (n : Node) (least : ℕ) → IsLeast lattice bounds best n least → lattice.limit < least → AllCovered lattice bounds best n
dear lattice bounds best n least is far = λ ks i.
    ⊎_elim (λ (c : IsCovered bounds best ks). c) (λ (h : least ≤ storage_of lattice.axes ks). absurd (over _ _ _ far h i.among.within)) (is ks i)

rank-most : (o : Order) (s r : ℕ) → IsRank o s r → r ≤ s
rank-most Storage s r is = omega (arith, is)
rank-most Lexicographic s r is = omega (arith, is)

rank-flat : (o : Order) (s r : ℕ) → IsRank o s r → o ≡ Lexicographic → r ≡ 0
rank-flat Storage s r is o = cc
rank-flat Lexicographic s r is o = is

pub rank-storage : (o : Order) (s r : ℕ) → IsRank o s r → o ≡ Storage → r ≡ s
rank-storage Storage s r is o = is
rank-storage Lexicographic s r is o = cc

-- one that is put back with what its rest needs
pub raised-by : (s t : Search) (n : Node) (storage rank : ℕ) → t.open.keys ≡ put_all ((record n { least = rank }) ∷ []) s.open.keys → IsProper s.lattice s.order n → n.least ≤ s.lattice.limit → IsRank s.order storage rank → n.least < rank → IsLeast s.lattice s.bounds.items s.best n storage → IsBranched s n t
raised-by s t n storage rank keys proper within is more least =
    raised s t n (record n { least = rank }) keys refl refl (record { on = proper.on; flat = rank-flat s.order storage rank is }) within more
    (λ ks i.
    ⊎_elim
    (λ (c : IsCovered s.bounds.items s.best ks). inl c)
    (λ (h : storage ≤ storage_of s.lattice.axes ks). inr (along _ _ _ (rank-most s.order storage rank is) h))
    (least ks i))

-- what a node begins with is needed by all of it
pub begins : (lattice : Lattice) (bounds : List Bound) (best : Fraction) (n : Node) (storage : ℕ) → storage ≡ storage_of lattice.axes n.lo.items → IsLeast lattice bounds best n storage
begins lattice bounds best n storage is = λ ks i. inr (along _ _ _ (level _ _ is) (lo-least lattice n ks i))
  where
    level : (a b : ℕ) → a ≡ b → a ≤ b
    level a b same = omega arith

-- one that no bound holds that acts
pub found : (s : Search) (n : Node) (storage : ℕ) (tolls : List Toll) → IsProper s.lattice s.order n → storage ≡ storage_of s.lattice.axes n.lo.items → storage ≤ s.lattice.limit → (s.order ≡ Storage → storage ≤ n.least) →
    AreEnough s.bounds.items s.best s.acting.items → AreTolls s.lattice s.bounds.items s.best n s.acting.items tolls → length tolls ≡ 0 → IsFound (known s) n
found s n storage tolls proper is within raised enough tolls-are none = record {
  proper = proper;
  among = record { on = proper.on; within = subst (λ (x : ℕ). x ≤ s.lattice.limit) is within };
  free = covers-nothing s.lattice s.bounds.items s.best n s.acting.items tolls enough tolls-are none;
  needs = λ o. subst (λ (x : ℕ). x ≤ n.least) is (raised o);
}
