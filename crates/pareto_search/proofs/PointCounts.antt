-- There are no more points than loops that were run.
use Rattle.std.proofs.Common.{◌≡◌, ℕ, ◌+◌, ◌≤◌, ◌<◌, true, false, Option, None, Some, List, [], ◌∷◌, length, map, ⊎_elim, refl, sym, ap, ◌∙◌, subst, arith}
use Rattle.std.specs.Cmp.{nat_eq_equiv, unsigned_Decides}
use Rattle.std.specs.List.{AllByRecursion, IsDistinct}
use Rattle.std.specs.Prelude.{All, Contains, nat_eq}
use Rattle.std.specs.Set.{is_member}
use Rattle.std.proofs.lemmas.Bool.{ne_eqb}
use Rattle.std.proofs.lemmas.List.{length-map}
use Rattle.std.proofs.lemmas.List.Elements.{All-head, All-tail}
use Rattle.std.proofs.lemmas.Map.Made.{is_member-Decides, length-le_from_is_member}
use Rattle.std.proofs.lemmas.Option.{none-some}
use Rattle.sd_base.specs.declared.limits.Limits.{Limits}
use Rattle.sd_base.specs.declared.numbers.Fraction.{Fraction}
use Rattle.sd_base.specs.Net.{Net}
use Rattle.sd_base.proofs.ContainedHavePlaces.{contains-cases, contains-here, contains-later, contains-none, contains-unmap}
use Rattle.pareto_front.specs.declared.point.Point.{Point}
use Rattle.guide.specs.declared.rating.Outcome.{Outcome}
use Rattle.guide.specs.declared.rating.Outcome.TheVariants.{Live, Blocked}
use Rattle.guide.specs.Evaluations.{IsOutcome}
use Rattle.covers.specs.declared.lattice.Axis.{Axis}
use Rattle.covers.specs.declared.lattice.Lattice.{Lattice}
use Rattle.covers.specs.Lattices.{storage_of}
use Rattle.walks.specs.declared.telling.Telling.{Telling}
use Rattle.pareto_search.specs.inside.Knowledge.{IsAbove, IsTold, counts_in, loops_in, ran}
use Rattle.pareto_search.specs.inside.Turns.{AreRising, IsToldOf}
use Rattle.pareto_search.specs.inside.Vectors.{bounded_by}

-- ---- the storages of points differ

abbrev totals : List Point → List ℕ
totals ps = map (λ (p : Point). p.total) ps

all-apart : (a : ℕ) (rate : Fraction) (ps : List Point) → All (λ (q : Point). (a < q.total) × IsAbove q.rate rate) ps → AllByRecursion (λ (b : ℕ). nat_eq a b ≡ false) (totals ps)
all-apart a rate [] above = tt
all-apart a rate (q ∷ ps) above =
    let here : (a < q.total) × IsAbove q.rate rate = All-head (λ (x : Point). (a < x.total) × IsAbove x.rate rate) q ps above in
    (ne_eqb a q.total (λ same. omega (arith, here.0, same)), all-apart a rate ps (All-tail (λ (x : Point). (a < x.total) × IsAbove x.rate rate) q ps above))

distinct-totals : (ps : List Point) → AreRising ps → IsDistinct nat_eq (totals ps)
unfolding IsDistinct
distinct-totals [] rising = tt
distinct-totals (p ∷ ps) rising = (all-apart p.total p.rate ps rising.0, distinct-totals ps rising.1)

-- ---- those of what was told and isn't blocked

-- the storage before others, unless it is blocked
abbrev with_storage : Option (List ℕ) → ℕ → List ℕ → List ℕ
with_storage None storage rest = storage ∷ rest
with_storage (Some counts) storage rest = rest

abbrev running : List Axis → List Telling → List ℕ
running axes [] = []
running axes (t ∷ ts) = with_storage t.blocked (storage_of axes t.capacities) (running axes ts)

running-many : (axes : List Axis) (ts : List Telling) → length (running axes ts) ≡ loops_in ts
running-many axes [] = refl
running-many axes (t ∷ ts) = at t.blocked (running-many axes ts)
  where
    at : (blocked : Option (List ℕ)) → length (running axes ts) ≡ loops_in ts → length (with_storage blocked (storage_of axes t.capacities) (running axes ts)) ≡ ran blocked + loops_in ts
    at None rest = omega (arith, rest)
    at (Some counts) rest = omega (arith, rest)

running-has : (axes : List Axis) (ts : List Telling) (t : Telling) → Contains ts t → t.blocked ≡ None → Contains (running axes ts) (storage_of axes t.capacities)
running-has axes [] t one runs = absurd (contains-none t one)
running-has axes (x ∷ ts) t one runs = ⊎_elim
    (λ (same : x ≡ t). first x.blocked (ap (λ (y : Telling). y.blocked) same ∙ runs) same)
    (λ (later : Contains ts t). behind x.blocked (running-has axes ts t later runs))
    (contains-cases x ts t one)
  where
    first : (blocked : Option (List ℕ)) → blocked ≡ None → x ≡ t → Contains (with_storage blocked (storage_of axes x.capacities) (running axes ts)) (storage_of axes t.capacities)
    first None is same = subst (λ (y : Telling). Contains (storage_of axes x.capacities ∷ running axes ts) (storage_of axes y.capacities)) same (contains-here (storage_of axes x.capacities) (running axes ts))
    first (Some counts) is same = absurd (none-some counts (sym is))

    behind : (blocked : Option (List ℕ)) → Contains (running axes ts) (storage_of axes t.capacities) → Contains (with_storage blocked (storage_of axes x.capacities) (running axes ts)) (storage_of axes t.capacities)
    behind None there = contains-later (storage_of axes x.capacities) (running axes ts) (storage_of axes t.capacities) there
    behind (Some counts) there = there

-- ---- what has a rate above 0 isn't blocked

module _ (net : Net) (limits : Limits) (corner : List (Option ℕ)) (lattice : Lattice) where
  unblocked : (t : Telling) → IsTold net limits corner lattice t → 1 ≤ t.rate.num → t.blocked ≡ None
  unblocked t told runs = at told.evaluation.outcome told.evaluated.outcome told.blocked
    where
      at : (outcome : Outcome) → IsOutcome net (bounded_by corner t.capacities) limits.states told.evaluation.rate told.evaluation.enlarge outcome → t.blocked ≡ counts_in outcome → t.blocked ≡ None
      at (Live table cycle) is blocked = blocked
      at (Blocked counts lacks) is blocked = absurd (omega (arith, runs, is.zero, ap (λ (r : Fraction). r.num) told.rate))

  -- points that rise, each told, are no more than the loops
  pub points-few : (tellings : List Telling) (points : List Point) → ((t : Telling) → Contains tellings t → IsTold net limits corner lattice t) → AreRising points → ((p : Point) → Contains points p → IsToldOf lattice tellings p) → length points ≤ loops_in tellings
  points-few tellings points told rising of =
      let there : (s : ℕ) → is_member nat_eq (totals points) s ≡ true → is_member nat_eq (running lattice.axes tellings) s ≡ true =
      λ s one.
      let p = contains-unmap (λ (q : Point). q.total) points s ((is_member-Decides unsigned_Decides (totals points) s).0 one) in
      let by = of p.0 p.1 in
      let has : Contains (running lattice.axes tellings) (storage_of lattice.axes by.telling.capacities) = running-has lattice.axes tellings by.telling by.among (unblocked by.telling (told by.telling by.among) by.runs) in
      (is_member-Decides unsigned_Decides (running lattice.axes tellings) s).1 (subst (Contains (running lattice.axes tellings)) (by.storage ∙ p.2) has) in
      let few = length-le_from_is_member nat_eq_equiv (totals points) (running lattice.axes tellings) (distinct-totals points rising) there in
      omega (arith, few, length-map points (λ (p : Point). p.total), running-many lattice.axes tellings)
