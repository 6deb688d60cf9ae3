-- Vectors that valid bounds cover have no greater rates than these, and the bound of what was told is valid.
use Rattle.std.proofs.Common.{ℕ, ◌*◌, ◌≤◌, Option, List, sym, subst}
use Rattle.std.specs.Prelude.{All}
use Rattle.std.proofs.lemmas.List.Elements.{All-contains}
use Rattle.sd_base.specs.declared.limits.Limits.{Limits}
use Rattle.sd_base.specs.declared.numbers.Fraction.{Fraction}
use Rattle.sd_base.specs.Net.{Net}
use Rattle.sd_base.specs.Rates.{Rate}
use Rattle.storage.specs.BoundedNets.{bound}
use Rattle.storage.proofs.FrontsFromMembers.{no_less}
use Rattle.covers.specs.declared.bound.Bound.{Bound}
use Rattle.covers.specs.declared.lattice.Lattice.{Lattice}
use Rattle.covers.specs.Bounds.{IsAtMost, IsCovered}
use Rattle.covers.specs.Lattices.{IsAmong}
use Rattle.walks.specs.declared.telling.Telling.{Telling}
use Rattle.pareto_search.specs.inside.Grounds.{IsGround}
use Rattle.pareto_search.specs.inside.Knowledge.{IsTold}
use Rattle.pareto_search.specs.inside.Turns.{IsBoundOf, IsValid}
use Rattle.pareto_search.specs.inside.Vectors.{bounded_by}

module _ (net : Net) (limits : Limits) (corner : List (Option ℕ)) (lattice : Lattice) (base : IsGround net limits corner lattice) where
  -- what was told has the rate of its net
  pub told-rate : (t : Telling) → IsTold net limits corner lattice t → Rate (bound net (bounded_by corner t.capacities)) t.rate.num t.rate.den
  told-rate t told = subst (λ (r : Fraction). Rate (bound net (bounded_by corner t.capacities)) r.num r.den) (sym told.rate) told.evaluated.rate

  pub bound-valid : (t : Telling) (b : Bound) → IsTold net limits corner lattice t → IsBoundOf t b → IsValid net corner lattice b
  bound-valid t b told of ks among covers x y rate =
      subst (λ (r : Fraction). x * r.den ≤ r.num * y) (sym of.rate) (told.bounds ks among ((of.covers ks).0 covers) x y rate)

  module _ (bs : List Bound) (valid : All (IsValid net corner lattice) bs) (r : Fraction) where
    pub covered-slow : (ks : List ℕ) → IsAmong lattice ks → IsCovered bs r ks → (x y : ℕ) → Rate (bound net (bounded_by corner ks)) x y → x * r.den ≤ r.num * y
    covered-slow ks among covered x y rate =
        let b : Bound = covered.0 in
        let mine : x * covered.0.rate.den ≤ covered.0.rate.num * y = All-contains (IsValid net corner lattice) bs b valid covered.1 ks among covered.3 x y rate in
        no_less x y b.rate.num b.rate.den r.num r.den b.rate.positive mine covered.2

    pub told-slow : (t : Telling) → IsTold net limits corner lattice t → IsCovered bs r t.capacities → IsAtMost t.rate r
    told-slow t is covered = covered-slow t.capacities is.among covered t.rate.num t.rate.den (told-rate t is)
