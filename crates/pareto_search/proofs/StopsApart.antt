-- Stops in ascending order are of different distributions.
use Rattle.std.proofs.Common.{◌≡◌, ℕ, Option, List, [], ◌∷◌, map, sym, ap, ◌∙◌, subst}
use Rattle.std.specs.Prelude.{Contains}
use Rattle.std.specs.declared.cmp.Ordering.TheVariants.{Less, Greater}
use Rattle.std.specs.Ordering.{nat_cmp, ordering_reverse}
use Rattle.std.specs.Cmp.Lexicographic.{slice_cmp}
use Rattle.std.proofs.lemmas.Cmp.{nat_list_cmp_total}
use Rattle.std.proofs.lemmas.List.Elements.{All-contains}
use Rattle.sd_base.proofs.ContainedHavePlaces.{contains-here, contains-later, contains-unmap}
use Rattle.pareto_search.specs.Entrances.{AreApart}
use Rattle.pareto_search.specs.declared.stops.Stop.{Stop}
use Rattle.pareto_search.specs.inside.Stops.{AreAscending, IsBefore}
use Rattle.pareto_search.specs.inside.Vectors.{bounded_by, vector_of}

pub not-before : (ks : List ℕ) → slice_cmp nat_cmp ks ks ≡ Less → ⊥
not-before ks less =
    let clash : Less ≡ Greater = sym less ∙ (nat_list_cmp_total.antisymm ks ks ∙ ap ordering_reverse less) in
    cc

pub ascending-apart : (corner : List (Option ℕ)) (stops : List Stop) → ((s : Stop) → Contains stops s → vector_of (bounded_by corner s.capacities) ≡ s.capacities) → AreAscending stops → AreApart (map (λ (s : Stop). bounded_by corner s.capacities) stops)
ascending-apart corner [] flat ascending = tt
ascending-apart corner (s ∷ stops) flat ascending = (
  λ es one same.
      let t = contains-unmap (λ (u : Stop). bounded_by corner u.capacities) stops es one in
      let less : IsBefore s t.0 = All-contains (IsBefore s) stops t.0 ascending.0 t.1 in
      let equal : s.capacities ≡ t.0.capacities = sym (flat s (contains-here s stops)) ∙ (ap vector_of (same ∙ sym t.2) ∙ flat t.0 (contains-later s stops t.0 t.1)) in
      not-before t.0.capacities (subst (λ (ks : List ℕ). slice_cmp nat_cmp ks t.0.capacities ≡ Less) equal less),
  ascending-apart corner stops (λ t one. flat t (contains-later s stops t one)) ascending.1,
)
