use Rattle.std.proofs.Common.{◌≡◌, ◌≤◌, All, length, map, take, vec_capacity, vec_len}
use Rattle.evaluations.specs.Evaluating.{IsVisitable}
use Rattle.pareto_search.specs.inside.Vectors.{bounded_by}
use Rattle.pareto_search.proofs.evaluating.visits_of.Given as goal

abbrev pub invariant-loop-stop : goal.invariant-loop-stop
invariant-loop-stop g l = record {
  long : vec_len l.visits ≡ l.stop-index;
  room : length l.stops ≤ vec_capacity l.visits;
  each : All (λ x. IsVisitable (g.F.Firing.net l.base.exploring.now.net.now) x.capacities x.counts.now) l.visits.items;
  order : map (λ x. x.capacities.capacities) l.visits.items ≡ map (λ s. bounded_by l.base.corner.now.capacities s.capacities) (take l.stop-index l.stops);
}
