use Rattle.report.proofs.SharedNames.{shared-plain}
use Rattle.report.proofs.worst_rates.put_shared.Goals as goal

pub returns-in-None : goal.returns-in-None
returns-in-None c = rw (shared-plain c.args.name.now c.in-None.ensures.cases) c.put_escaped-in-None.ensures
