use Rattle.std.proofs.Common.{◌≡◌, ◌+◌, ◌≤◌, ◌++◌, map, reverse, All, vec_len, vec_capacity}
use Rattle.evaluations.specs.Evaluating.{IsEvaluation, least_loops, most_loops, sum_of}
use Rattle.evaluations.specs.inside.Tasks.{IsDone}
use Rattle.evaluations.proofs.evaluating.drain.Given as goal

abbrev pub invariant-loop-task : goal.invariant-loop-task
invariant-loop-task g l =
    (vec_len l.tasks + l._task ≡ vec_len l.initial.tasks)
    × (vec_len l.answers ≡ l._task)
    × (vec_capacity l.answers ≡ vec_capacity l.initial.answers)
    × All (λ t. IsDone (g.F.Firing.net l.net) l.states l.fn.best t.capacities t.steps t.answer) l.tasks.items
    × All (λ a. IsEvaluation (g.F.Firing.net l.net) l.states l.fn.best a.capacities a.answer) l.answers.items
    × (l.steps.share ≡ l.initial.steps.share)
    × (l.initial.steps.count + sum_of least_loops l.answers.items ≤ l.steps.count)
    × (l.steps.count ≤ l.initial.steps.count + sum_of most_loops l.answers.items)
    × (reverse (map (λ t. t.capacities) l.initial.tasks.items) ≡ map (λ a. a.capacities) l.answers.items ++ reverse (map (λ t. t.capacities) l.tasks.items))
