use Rattle.std.proofs.Common.{◌≡◌, ℕ, Option, List, map, sym, ap, ◌∙◌}
use Rattle.std.proofs.lemmas.Result.{IfOk-weaker}
use Rattle.sd_base.proofs.ElementsKeepPlaces.{map-map}
use Rattle.storage.specs.declared.distribution.Distribution.{Distribution}
use Rattle.evaluations.specs.declared.evaluating.Answered.{Answered}
use Rattle.evaluations.specs.declared.evaluating.Visit.{Visit}
use Rattle.pareto_search.specs.declared.stops.Stop.{Stop}
use Rattle.pareto_search.specs.inside.Learning.{answered_of}
use Rattle.pareto_search.specs.inside.Vectors.{bounded_by}
use Rattle.pareto_search.proofs.evaluating.evaluate_stops.Goals as goal

pub returns-clause-order : goal.returns-clause-order
returns-clause-order g c =
    let of : Distribution → List (Option ℕ) = λ d. d.capacities in
    let corner = c.args.base.now.corner.now.capacities in
    let visits = c.in_ok-visits.visits.items in
    IfOk-weaker c.evaluate_all.result (λ v. map (λ (a : Answered). a.capacities) v.items ≡ map (λ (x : Visit). x.capacities) visits)
    (λ v. answered_of v.items ≡ map (λ (s : Stop). bounded_by corner s.capacities) c.args.stops.now)
    (λ v order. sym (map-map of (λ (a : Answered). a.capacities) v.items) ∙ (ap (map of) order ∙ (map-map of (λ (x : Visit). x.capacities) visits ∙ c.in_ok-visits.ensures.order)))
    c.evaluate_all.ensures.order
