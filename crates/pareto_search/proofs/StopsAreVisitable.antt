-- Stops can be evaluated, from counts that they reach.
use Rattle.std.proofs.Common.{◌≡◌, ℕ, ◌<◌, Option, None, Some, List, length, refl, sym, subst}
use Rattle.std.specs.Prelude.{All, IfSome}
use Rattle.std.proofs.lemmas.Option.{slice_get_within}
use Rattle.sd_base.specs.declared.limits.Limits.{Limits}
use Rattle.sd_base.specs.Net.{Net}
use Rattle.sd_base.proofs.ElementsKeepPlaces.{all-get}
use Rattle.liveness.specs.RoundAnswers.{AreReachedCounts}
use Rattle.storage.specs.BoundedNets.{bound}
use Rattle.storage.specs.declared.distribution.Distribution.{Distribution}
use Rattle.guide.specs.Evaluations.{IsEvaluable}
use Rattle.covers.specs.declared.lattice.Axis.{Axis}
use Rattle.covers.specs.declared.lattice.Lattice.{Lattice}
use Rattle.evaluations.specs.declared.starts.Starts.{Starts}
use Rattle.evaluations.specs.Evaluating.{IsVisitable}
use Rattle.walks.specs.declared.telling.Telling.{Telling}
use Rattle.walks.specs.Walks.{IsBy}
use Rattle.pareto_search.specs.declared.stops.Stop.{Stop}
use Rattle.pareto_search.specs.inside.Grounds.{IsBase}
use Rattle.pareto_search.specs.inside.Knowledge.{IsTold}
use Rattle.pareto_search.specs.inside.Learning.{counts_after, counts_at, counts_by}
use Rattle.pareto_search.specs.inside.Stops.{IsStop}
use Rattle.pareto_search.specs.inside.Vectors.{bounded_by}
use Rattle.pareto_search.proofs.StartCounts.{counts_or, told-reached}
use Rattle.pareto_search.proofs.WithinLimit.{among-evaluable}

pub by-place : (axes : List Axis) (tellings : List Telling) (ks : List ℕ) (by : Option ℕ) → IsBy axes tellings ks by → IfSome by (λ (place : ℕ). place < length tellings)
by-place axes tellings ks None is = tt
by-place axes tellings ks (Some place) (t, at, under) = slice_get_within tellings place t at

after-same : (starts : Starts) (blocked : Option (List ℕ)) → counts_or starts.whole blocked ≡ counts_after starts blocked
after-same starts None = refl
after-same starts (Some counts) = refl

module _ (net : Net) (limits : Limits) (corner : List (Option ℕ)) (lattice : Lattice) (starts : Starts) (base : IsBase net limits corner lattice starts) (tellings : List Telling) (told : All (IsTold net limits corner lattice) tellings) (goals : List (List ℕ)) where
  by-reached : (s : Stop) → IsStop net limits corner lattice tellings goals s → (by : Option ℕ) → IsBy lattice.axes tellings s.capacities by → AreReachedCounts (bound net (bounded_by corner s.capacities)) (counts_by starts tellings by)
  by-reached s is None by = base.starts.none (bound net (bounded_by corner s.capacities)) refl
  by-reached s is (Some place) (t, at, under) =
      subst (λ (o : Option Telling). AreReachedCounts (bound net (bounded_by corner s.capacities)) (counts_at starts o)) (sym at)
      (subst (AreReachedCounts (bound net (bounded_by corner s.capacities))) (after-same starts t.blocked)
      (told-reached net limits corner lattice base.stands starts.whole base.starts.whole t (all-get (IsTold net limits corner lattice) tellings place t told at) s.capacities is.among under))

  pub stop-visitable : (s : Stop) (d : Distribution) (counts : List ℕ) → IsStop net limits corner lattice tellings goals s → d.capacities ≡ bounded_by corner s.capacities → counts ≡ counts_by starts tellings s.by → IsVisitable net d counts
  stop-visitable s d counts is capacities by = record {
    fits = subst (IsEvaluable net) (sym capacities) (among-evaluable net limits corner lattice base.stands s.capacities is.among);
    reached = subst (λ (ds : List (Option ℕ)). AreReachedCounts (bound net ds) counts) (sym capacities)
        (subst (AreReachedCounts (bound net (bounded_by corner s.capacities))) (sym by) (by-reached s is s.by is.by));
  }
