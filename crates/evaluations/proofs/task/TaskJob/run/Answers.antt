use Rattle.std.proofs.Common.{refl}
use Rattle.evaluations.proofs.FreshTasksFinish.{run-answer}
use Rattle.evaluations.proofs.task.TaskJob.run.Goals as goal

pub returns : goal.returns
returns g c =
    let t = c.args.self.now in
    record {
      same = refl;
      share = c.evaluate-answer.ensures.share;
      answered = run-answer (g.F.Firing.net t.net.now) t.capacities.capacities t.states t.best t.steps.count c.evaluate-answer.new.steps.count c.evaluate-answer.result c.keep.result c.keep.ensures
          c.evaluate-answer.ensures.evaluated c.evaluate-answer.ensures.refused c.evaluate-answer.ensures.count c.evaluate-answer.ensures.most;
    }
