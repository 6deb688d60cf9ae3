use Rattle.fanout.proofs.RunJobsEnter.{from-first}
use Rattle.fanout.proofs.parts.all.Goals as goal

pub returns-clause-entered : goal.returns-clause-entered
returns-clause-entered g c = from-first (g.G.Gate.entered c.args.gate.now c.args.level) c.args.jobs.now c.part.ensures.entered
