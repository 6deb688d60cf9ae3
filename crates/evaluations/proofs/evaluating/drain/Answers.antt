use Rattle.std.proofs.Common.{◌≡◌, ◌++◌, ◌∷◌, [], ℕ, ◌+◌, All, Result, Some, refl, ap, subst, sym, ◌∙◌, arith}
use Rattle.std.proofs.lemmas.List.Elements.{All-push}
use Rattle.fanout.proofs.TaskLists.{drained-more, all-front, all-last}
use Rattle.storage.specs.declared.distribution.Distribution.{Distribution}
use Rattle.lasso.specs.RunError.{RunError}
use Rattle.evaluations.specs.declared.task.Task.{Task}
use Rattle.evaluations.specs.declared.evaluating.Answered.{Answered}
use Rattle.evaluations.specs.declared.rated.Rated.{Rated}
use Rattle.evaluations.specs.Evaluating.{IsEvaluation, least_loops, most_loops, sum_of}
use Rattle.evaluations.specs.inside.Tasks.{IsAnswered, IsDone}
use Rattle.evaluations.proofs.FreshTasksFinish.{answer-is, counts-least, counts-most, sum-more}
use Rattle.evaluations.proofs.evaluating.drain.Goals as goal

pub loop-task-preserved : goal.loop-task-preserved
loop-task-preserved g c =
    let net = g.F.Firing.net c.args.net.now in
    let P : Task g.row.F.Denot g.row.L.Denot → Type 0 = λ t. IsDone net c.args.states c.args.best t.capacities t.steps t.answer in
    let Q : Answered → Type 0 = λ a. IsEvaluation net c.args.states c.args.best a.capacities a.answer in
    let t = c.take_last-capacities.result in
    let rest = c.take_last-capacities.new.self.items in
    let both : All P (rest ++ t ∷ []) = subst (All P) c.take_last-capacities.ensures.items c.loop-task.invariant.3 in
    let here : P t = all-last P rest t both in
    let answered : IsAnswered net t.capacities.capacities c.args.states c.args.best 0 t.steps.count (Some c.in-Some.answer) =
    subst (IsAnswered net t.capacities.capacities c.args.states c.args.best 0 t.steps.count) c.in-Some.is here.answered in
    let pushed : Answered = record { capacities = t.capacities; answer = c.in-Some.answer } in
    let f : Task g.row.F.Denot g.row.L.Denot → Distribution = λ x. x.capacities in
    let h : Answered → Distribution = λ a. a.capacities in
    let sums : (p : Result Rated RunError → ℕ) → sum_of p c.push_reserved.new.self.items ≡ sum_of p c.loop-task.answers.items + p c.in-Some.answer = λ p. ap (sum_of p) c.push_reserved.ensures.items ∙ sum-more p c.loop-task.answers.items pushed in (
      omega (arith, c.take_last-capacities.ensures.len, c.loop-task.invariant.0),
      omega (arith, c.push_reserved.ensures.len, c.loop-task.invariant.1),
      c.push_reserved.ensures.capacity ∙ c.loop-task.invariant.2,
      all-front P rest t both,
      subst (All Q) (sym c.push_reserved.ensures.items) (All-push Q c.loop-task.answers.items pushed c.loop-task.invariant.4 (answer-is net t.capacities c.args.states c.args.best 0 t.steps.count c.in-Some.answer answered)),
      c.absorb.ensures.share ∙ c.loop-task.invariant.5,
      omega (arith, c.absorb.ensures.count, c.loop-task.invariant.6, counts-least net t.capacities.capacities c.args.states c.args.best t.steps.count c.in-Some.answer answered, sums least_loops),
      omega (arith, c.absorb.ensures.count, c.loop-task.invariant.7, counts-most net t.capacities.capacities c.args.states c.args.best t.steps.count c.in-Some.answer answered, sums most_loops),
      c.loop-task.invariant.8 ∙ drained-more f h c.loop-task.tasks.items rest t c.loop-task.answers.items c.push_reserved.new.self.items pushed c.take_last-capacities.ensures.items c.push_reserved.ensures.items refl,
    )
