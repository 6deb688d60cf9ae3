use Rattle.std.proofs.Common.{◌≡◌, ◌+◌, ◌++◌, map, reverse, All, vec_len, vec_capacity}
use Rattle.scenario_storage.specs.inside.Levels.{IsRatingAnswer, IsAnswered}
use Rattle.scenario_storage.proofs.level.drain.Given as goal

abbrev pub invariant-loop-task : goal.invariant-loop-task
invariant-loop-task l =
    (vec_len l.tasks + l._task ≡ vec_len l.initial.tasks)
    × (vec_len l.answers ≡ l._task)
    × (vec_capacity l.answers ≡ vec_capacity l.initial.answers)
    × All (λ t. IsAnswered l.plan.file.now l.plan.limits l.fn.best t.capacities.capacities t.answer) l.tasks.items
    × All (λ a. IsRatingAnswer l.plan.file.now l.plan.limits l.fn.best a.capacities.capacities a.answer) l.answers.items
    × (reverse (map (λ t. t.capacities) l.initial.tasks.items) ≡ map (λ a. a.capacities) l.answers.items ++ reverse (map (λ t. t.capacities) l.tasks.items))
