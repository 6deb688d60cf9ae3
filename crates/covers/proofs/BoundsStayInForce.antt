-- Bounds in force: more of them as the best rate rises, and as bounds are added.
use Rattle.std.proofs.Common.{◌≡◌, ℕ, ◌+◌, ◌*◌, ◌≤◌, ◌<◌, inl, inr, ⊎_elim, List, [], ◌∷◌, ◌++◌, sym, subst, arith}
use Rattle.std.specs.Prelude.{All}
use Rattle.std.proofs.lemmas.Bool.{cases_lt}
use Rattle.std.proofs.lemmas.List.Elements.{Contains-append_left}
use Rattle.std.proofs.Math.Nat.{mul-le-mul_right}
use Rattle.sd_base.specs.declared.numbers.Fraction.{Fraction}
use Rattle.covers.specs.declared.bound.Bound.{Bound}
use Rattle.covers.specs.declared.lattice.Lattice.{Lattice}
use Rattle.covers.specs.declared.node.Node.{Node}
use Rattle.covers.specs.declared.search.Order.{Order}
use Rattle.covers.specs.declared.search.Search.{Search}
use Rattle.covers.specs.Lattices.{IsAmong}
use Rattle.covers.specs.Bounds.{AreEnough, IsAtMost, IsCovered, IsInForce}
use Rattle.covers.specs.Nodes.{IsProper, LiesIn}
use Rattle.covers.specs.Searches.{IsSearched}

pub covered-added : (bounds : List Bound) (b : Bound) (best : Fraction) (ks : List ℕ) → IsCovered bounds best ks → IsCovered (bounds ++ b ∷ []) best ks
covered-added bounds b best ks c = (c.0, Contains-append_left bounds (b ∷ []) c.0 c.1, c.2, c.3)

-- a/b is at most c/d, and that at most e/f
pub rates-along : (a b c d e f : ℕ) → 1 ≤ d → a * d ≤ c * b → c * f ≤ e * d → a * f ≤ e * b
rates-along a b c d e f some first second =
    ⊎_elim
    (λ (more : e * b < a * f).
    let over : e * b + 1 ≤ a * f = omega arith in
    absurd (omega (arith, mul-le-mul_right d over, mul-le-mul_right f first, mul-le-mul_right b second)))
    (λ (less : a * f ≤ e * b). less)
    (cases_lt (e * b) (a * f))

-- a bound in force stays so
pub force-on : (best rate : Fraction) (b : Bound) → IsAtMost best rate → IsInForce best b → IsInForce rate b
force-on best rate b up force = rates-along b.rate.num b.rate.den best.num best.den rate.num rate.den best.positive force up

pub covered-reached : (bounds : List Bound) (best rate : Fraction) (ks : List ℕ) → IsAtMost best rate → IsCovered bounds best ks → IsCovered bounds rate ks
covered-reached bounds best rate ks up c = (c.0, c.1, force-on best rate c.0 up c.2, c.3)

-- where what is covered stays so, the lattice and the open nodes stay, and the bounds that act are enough, the search stays one
pub searched-more : (s t : Search) → t.lattice ≡ s.lattice → t.order ≡ s.order → t.open.keys ≡ s.open.keys → ((ks : List ℕ) → IsCovered s.bounds.items s.best ks → IsCovered t.bounds.items t.best ks) → AreEnough t.bounds.items t.best t.acting.items → IsSearched s → IsSearched t
searched-more s t lattice order open' more enough old = record {
  all = λ ks among.
      ⊎_elim
      (λ (h : IsCovered s.bounds.items s.best ks). inl (more ks h))
      (λ (h : LiesIn s.lattice s.open.keys ks). inr (subst (λ (ns : List Node). LiesIn t.lattice ns ks) (sym open') (subst (λ (l : Lattice). LiesIn l s.open.keys ks) (sym lattice) h)))
      (old.all ks (subst (λ (l : Lattice). IsAmong l ks) lattice among));
  proper = subst (All (IsProper t.lattice t.order)) (sym open') (subst (λ (l : Lattice). All (IsProper l t.order) s.open.keys) (sym lattice) (subst (λ (o : Order). All (IsProper s.lattice o) s.open.keys) (sym order) old.proper));
  acting = enough;
}
