-- What an evaluation shows bounds the rates of all vectors with no more on the channels that it shows, and a circular wait those
-- of all with no more on the channels whose free space is on it.
use Rattle.std.proofs.Common.{◌≡◌, ℕ, ◌*◌, ◌≤◌, Option, Some, List, sym, ap, ◌∙◌, arith}
use Rattle.std.specs.Prelude.{All, Contains, slice_index}
use Rattle.std.proofs.lemmas.List.Elements.{All-contains, All-weaker, Contains-get_or}
use Rattle.sd_base.specs.declared.limits.Limits.{Limits}
use Rattle.sd_base.specs.declared.numbers.Fraction.{Fraction}
use Rattle.sd_base.specs.Net.{Net}
use Rattle.storage.specs.Distributions.{capacity_at}
use Rattle.guide.specs.declared.rating.Evaluation.{Evaluation}
use Rattle.guide.specs.Covering.{CoversOn}
use Rattle.guide.specs.Evaluations.{IsEvaluated}
use Rattle.guide.proofs.BoundsBelow.{bounded-below}
use Rattle.covers.specs.declared.lattice.Lattice.{Lattice}
use Rattle.covers.specs.Lattices.{IsAmong}
use Rattle.walks.specs.declared.telling.Telling.{Telling}
use Rattle.pareto_search.specs.inside.Grounds.{IsGround}
use Rattle.pareto_search.specs.inside.Knowledge.{BoundsOn}
use Rattle.pareto_search.specs.inside.Vectors.{bounded_by}
use Rattle.pareto_search.specs.inside.Waits.{StopsAll}
use Rattle.pareto_search.proofs.BoundedBy.{bounded-no-more, bounded-room}
use Rattle.pareto_search.proofs.WithinLimit.{among-evaluable, among-lawful}

-- what has no more on all channels that are shown has no more on those that bound
pub covers-bounding : (t : Telling) → All (Contains t.enlarge) t.bounding → (ks : List ℕ) → All (λ (c : ℕ). slice_index ks c ≤ slice_index t.capacities c) t.enlarge → All (λ (c : ℕ). slice_index ks c ≤ slice_index t.capacities c) t.bounding
covers-bounding t shown ks covers =
    All-weaker (Contains t.enlarge) (λ (c : ℕ). slice_index ks c ≤ slice_index t.capacities c) (λ c one. All-contains (λ (d : ℕ). slice_index ks d ≤ slice_index t.capacities d) t.enlarge c covers one) t.bounding shown

module _ (net : Net) (limits : Limits) (corner : List (Option ℕ)) (lattice : Lattice) (ground : IsGround net limits corner lattice) (ks : List ℕ) (among : IsAmong lattice ks) where
  covers-shown : (shown js : List ℕ) → IsAmong lattice js → All (λ (c : ℕ). slice_index js c ≤ slice_index ks c) shown → CoversOn shown (bounded_by corner ks) (bounded_by corner js)
  covers-shown shown js here covers j below =
      let c : ℕ = slice_index shown j in
      bounded-no-more corner js ks c (here.on.long ∙ sym among.on.long)
      (All-contains (λ (d : ℕ). slice_index js d ≤ slice_index ks d) shown c covers (Contains-get_or shown j 0 below))

  pub shown-bounds : (e : Evaluation) → IsEvaluated net (bounded_by corner ks) limits.states e → BoundsOn net corner lattice ks e.rate e.enlarge
  shown-bounds e is js here covers x y rate =
      bounded-below net ground.laws (bounded_by corner ks) (bounded_by corner js)
      (among-evaluable net limits corner lattice ground ks among)
      (among-evaluable net limits corner lattice ground js here)
      e.rate e.enlarge is.bounds (covers-shown e.enlarge js here covers) x y rate

  pub stopped-bounds : (channels : List ℕ) → StopsAll net (bounded_by corner ks) channels → (bounding : Fraction) → BoundsOn net corner lattice ks bounding channels
  stopped-bounds channels stops bounding js here covers x y rate =
      let none : x ≡ 0 = stops (bounded_by corner js) x y (among-lawful net limits corner lattice ground js here) room rate in
      let nothing : x * bounding.den ≡ 0 * bounding.den = ap (λ (n : ℕ). n * bounding.den) none in
      omega (arith, nothing)
    where
      room : (c k : ℕ) → Contains channels c → capacity_at (bounded_by corner ks) c ≡ Some k → (n : ℕ) × (capacity_at (bounded_by corner js) c ≡ Some n) × (n ≤ k)
      room c k one has =
          bounded-room corner js ks c k (here.on.long ∙ sym among.on.long)
          (All-contains (λ (d : ℕ). slice_index js d ≤ slice_index ks d) channels c covers one) has
