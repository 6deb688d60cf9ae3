use Rattle.std.proofs.Common.{◌≡◌, All, length, map, vec_len, vec_capacity}
use Rattle.evaluations.specs.inside.Tasks.{IsFresh}
use Rattle.evaluations.proofs.evaluating.fill.Given as goal

abbrev pub invariant-loop-visit : goal.invariant-loop-visit
invariant-loop-visit g l =
    (vec_len l.tasks ≡ length l.yielded)
    × (vec_capacity l.tasks ≡ vec_capacity l.initial.tasks)
    × All (λ t. IsFresh (g.F.Firing.net l.exploring.net.now) (g.F.Firing.net t.net.now) t.wiring.now l.exploring.limits.states l.best t.capacities t.counts.now t.states t.best t.steps) l.tasks.items
    × (l.steps ≡ l.initial.steps)
    × (map (λ t. t.capacities) l.tasks.items ≡ map (λ v. v.capacities) l.yielded)
