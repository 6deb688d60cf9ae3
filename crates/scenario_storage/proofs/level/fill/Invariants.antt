use Rattle.std.proofs.Common.{◌≡◌, All, length, map, vec_len, vec_capacity}
use Rattle.scenario_storage.specs.inside.Levels.{IsFresh}
use Rattle.scenario_storage.proofs.level.fill.Given as goal

abbrev pub invariant-loop-found : goal.invariant-loop-found
invariant-loop-found l =
    (vec_len l.tasks ≡ length l.yielded)
    × (vec_capacity l.tasks ≡ vec_capacity l.initial.tasks)
    × All (λ t. IsFresh l.plan.file.now l.plan.gammas.now l.plan.limits l.best t.file.now t.gammas.now t.limits t.blocked.now t.best t.capacities) l.tasks.items
    × (map (λ t. t.capacities) l.tasks.items ≡ map (λ f. f.capacities) l.yielded)
