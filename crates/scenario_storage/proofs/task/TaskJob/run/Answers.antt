use Rattle.std.proofs.Common.{refl}
use Rattle.scenario_storage.proofs.task.TaskJob.run.Goals as goal

pub returns : goal.returns
returns c = record { same = refl; answered = c.rate-answer.ensures }
