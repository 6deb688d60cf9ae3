use Rattle.fanout.proofs.RunJobsEnter.{joined-entered}
use Rattle.fanout.proofs.parts.+halves.Goals as goal

pub part-returns-clause-entered : goal.part-returns-clause-entered
part-returns-clause-entered g n c =
    let halves = c.split_at_mut-first in
    joined-entered (g.G.Gate.entered c.args.gate.now c.args.place.level) c.args.place.first _ c.args.jobs.now halves.result.0.now halves.result.1.now
    halves.ensures.front_len halves.ensures.back_len c.both_parts.ensures.front_entered c.both_parts.ensures.back_entered
