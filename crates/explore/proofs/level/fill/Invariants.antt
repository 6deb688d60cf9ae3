use Rattle.std.proofs.Common.{◌≡◌, All, length, map, vec_len, vec_capacity}
use Rattle.evaluations.specs.Evaluating.{IsVisitable}
use Rattle.explore.proofs.level.fill.Given as goal

abbrev pub invariant-loop-found : goal.invariant-loop-found
invariant-loop-found g l =
    (vec_len l.visits ≡ length l.yielded)
    × (vec_capacity l.visits ≡ vec_capacity l.initial.visits)
    × All (λ v. IsVisitable (g.F.Firing.net l.exploring.net.now) v.capacities v.counts.now) l.visits.items
    × (map (λ v. v.capacities) l.visits.items ≡ map (λ f. f.capacities) l.yielded)
