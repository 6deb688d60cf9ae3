-- The caps of what was told make its bound.
use Rattle.std.proofs.Common.{◌≡◌, map, sym, subst}
use Rattle.std.specs.Prelude.{All}
use Rattle.std.proofs.lemmas.List.Elements.{All-map}
use Rattle.sd_base.proofs.ElementsKeepPlaces.{all-unmap}
use Rattle.covers.specs.declared.bound.Bound.{Bound}
use Rattle.covers.specs.Bounds.{IsWithin}
use Rattle.walks.specs.declared.telling.Telling.{Telling}
use Rattle.pareto_search.specs.inside.Learning.{cap_of}
use Rattle.pareto_search.specs.inside.Turns.{IsBoundOf}

pub bound-told : (t : Telling) (b : Bound) → b.caps ≡ map (cap_of t.capacities) t.bounding → b.rate ≡ t.rate → IsBoundOf t b
bound-told t b caps rate = record {
  covers = λ ks. (
    λ covers. all-unmap (IsWithin ks) (cap_of t.capacities) t.bounding (subst (All (IsWithin ks)) caps covers),
    λ all. subst (All (IsWithin ks)) (sym caps) (All-map (IsWithin ks) (cap_of t.capacities) t.bounding all),
  );
  rate = rate;
}
