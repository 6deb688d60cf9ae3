use Rattle.std.proofs.Common.{◌++◌, ◌∷◌, [], All, Some, refl, subst, sym, ◌∙◌, arith}
use Rattle.std.proofs.lemmas.List.Elements.{All-push}
use Rattle.fanout.proofs.TaskLists.{drained-more, all-front, all-last}
use Rattle.scenario_storage.specs.declared.task.Task.{Task}
use Rattle.scenario_storage.specs.declared.level.Answered.{Answered}
use Rattle.scenario_storage.specs.inside.Levels.{IsRatingAnswer, IsAnswered}
use Rattle.storage.specs.declared.distribution.Distribution.{Distribution}
use Rattle.scenario_storage.proofs.level.drain.Goals as goal

pub loop-task-preserved : goal.loop-task-preserved
loop-task-preserved c =
    let plan = c.args.plan.now in
    let P : Task → Type 0 = λ t. IsAnswered plan.file.now plan.limits c.args.best t.capacities.capacities t.answer in
    let Q : Answered → Type 0 = λ a. IsRatingAnswer plan.file.now plan.limits c.args.best a.capacities.capacities a.answer in
    let t = c.take_last-capacities.result in
    let rest = c.take_last-capacities.new.self.items in
    let both : All P (rest ++ t ∷ []) = subst (All P) c.take_last-capacities.ensures.items c.loop-task.invariant.3 in
    let here : P t = all-last P rest t both in
    let answered : IsAnswered c.args.plan.now.file.now c.args.plan.now.limits c.args.best t.capacities.capacities (Some c.in-Some.answer) =
    subst (IsAnswered plan.file.now plan.limits c.args.best t.capacities.capacities) c.in-Some.is here in
    let pushed : Answered = record { capacities = t.capacities; answer = c.in-Some.answer } in
    let f : Task → Distribution = λ x. x.capacities in
    let h : Answered → Distribution = λ a. a.capacities in (
      omega (arith, c.take_last-capacities.ensures.len, c.loop-task.invariant.0),
      omega (arith, c.push_reserved.ensures.len, c.loop-task.invariant.1),
      c.push_reserved.ensures.capacity ∙ c.loop-task.invariant.2,
      all-front P rest t both,
      subst (All Q) (sym c.push_reserved.ensures.items) (All-push Q c.loop-task.answers.items pushed c.loop-task.invariant.4 answered),
      c.loop-task.invariant.5 ∙ drained-more f h c.loop-task.tasks.items rest t c.loop-task.answers.items c.push_reserved.new.self.items pushed c.take_last-capacities.ensures.items c.push_reserved.ensures.items refl,
    )
