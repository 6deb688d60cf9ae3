-- A search that begins with nothing known stands at storage 0.
use Rattle.std.proofs.Common.{◌≡◌, ℕ, ◌*◌, ◌≤◌, Option, None, List, [], drop, length, take, sym, ap, subst, arith, mul-le-mul_right}
use Rattle.std.specs.Prelude.{All, Contains}
use Rattle.std.proofs.lemmas.List.Elements.{All-nil}
use Rattle.sd_base.proofs.ContainedHavePlaces.{contains-none, get-contains}
use Rattle.sd_base.specs.declared.limits.Limits.{Limits}
use Rattle.sd_base.specs.Net.{Net}
use Rattle.pareto_front.specs.declared.point.Point.{Point}
use Rattle.covers.specs.declared.lattice.Lattice.{Lattice}
use Rattle.covers.specs.declared.search.Order.TheVariants.{Storage}
use Rattle.covers.specs.Bounds.{IsAtMost}
use Rattle.covers.specs.Lattices.{storage_of}
use Rattle.covers.specs.Searches.{IsSearched}
use Rattle.walks.specs.declared.telling.Telling.{Telling}
use Rattle.pareto_search.specs.declared.searching.Searching.{Searching}
use Rattle.pareto_search.specs.inside.Knowledge.{IsKnown, IsLooped, IsTold}
use Rattle.pareto_search.specs.inside.Turns.{AreRising, HasBound, IsDue, IsPointed, IsSameRate, IsStanding, IsValid}

module _ (net : Net) (limits : Limits) (corner : List (Option ℕ)) (lattice : Lattice) (s : Searching) (searched : IsSearched s.bounds) (order : s.bounds.order ≡ Storage) (lattice_is : s.bounds.lattice ≡ lattice) (bounds : s.bounds.bounds.items ≡ []) (best : s.bounds.best.num ≡ 0) (tellings : s.known.tellings.items ≡ []) (loops : s.known.loops.items ≡ []) (points : s.points.items ≡ []) (below : s.below.num ≡ 0) (due : s.due ≡ None) where
  none-told : (t : Telling) → Contains s.known.tellings.items t → ⊥
  none-told t one = contains-none t (subst (λ (xs : List Telling). Contains xs t) tellings one)

  none-point : (p : Point) → Contains s.points.items p → ⊥
  none-point p one = contains-none p (subst (λ (xs : List Point). Contains xs p) points one)

  known : IsKnown net limits corner lattice s.below s.known
  known = record {
    told = subst (All (IsTold net limits corner lattice)) (sym tellings) (All-nil (IsTold net limits corner lattice));
    apart = λ i j a b less first second same. none-told a (get-contains s.known.tellings.items i a first);
    loops = subst (All (IsLooped net limits.states corner s.known.tellings.items)) (sym loops) (All-nil (IsLooped net limits.states corner s.known.tellings.items));
    kept = λ i t at above. absurd (none-told t (get-contains s.known.tellings.items i t at));
    few = subst (λ (xs : List Telling). length xs ≤ limits.distributions) (sym tellings) (omega arith);
  }

  both-none : IsSameRate s.bounds.best s.below
  both-none =
      let first : s.bounds.best.num * s.below.den ≡ 0 * s.below.den = ap (λ (n : ℕ). n * s.below.den) best in
      let second : s.below.num * s.bounds.best.den ≡ 0 * s.bounds.best.den = ap (λ (n : ℕ). n * s.bounds.best.den) below in
      (omega (arith, first, second), omega (arith, first, second))

  none-slow : (num den : ℕ) → 1 ≤ num → num * s.below.den ≤ s.below.num * den → ⊥
  none-slow num den runs slow =
      let zero_here : s.below.num * den ≡ 0 * den = ap (λ (n : ℕ). n * den) below in
      let some : 1 * s.below.den ≤ num * s.below.den = mul-le-mul_right s.below.den runs in
      let there : 1 ≤ s.below.den = s.below.positive in
      omega (arith, zero_here, some, there, slow)

  pointed : IsPointed net limits lattice s.known.tellings.items s.below 0 s.points.items
  pointed = record {
    reached = λ p one. absurd (none-point p one);
    rising = subst AreRising (sym points) tt;
    early = λ p one. absurd (none-point p one);
    slow = λ p one. absurd (none-point p one);
    told = λ p one. absurd (none-point p one);
    all = λ storage num den ds reaches slow. absurd (none-slow num den reaches.runs slow);
  }

  pub begun : IsStanding net limits corner lattice 0 s
  begun = record {
    searched = searched;
    by_storage = order;
    lattice_is = lattice_is;
    kept = subst (λ (xs : List Telling). All (HasBound s.bounds.bounds.items) (take (length xs) xs)) (sym tellings) (All-nil (HasBound s.bounds.bounds.items));
    valid = subst (All (IsValid net corner lattice)) (sym bounds) (All-nil (IsValid net corner lattice));
    most = subst (λ (xs : List Telling). All (λ (t : Telling). IsAtMost t.rate s.bounds.best) (take (length xs) xs)) (sym tellings) (All-nil (λ (t : Telling). IsAtMost t.rate s.bounds.best));
    later = subst (λ (xs : List Telling). All (λ (t : Telling). storage_of lattice.axes t.capacities ≤ 0) (drop (length xs) xs)) (sym tellings) (All-nil (λ (t : Telling). storage_of lattice.axes t.capacities ≤ 0));
    known = known;
    settled = λ ks among less. absurd (omega (arith, less));
    due = subst (IsDue lattice s.known.tellings.items s.below 0 s.bounds.best) (sym due) both-none;
    pointed = pointed;
  }
