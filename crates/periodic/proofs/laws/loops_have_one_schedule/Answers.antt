use Rattle.periodic.proofs.LoopStarts.{one_schedule}
use Rattle.periodic.proofs.laws.loops_have_one_schedule.Goals as goal

pub returns : goal.returns
returns c = one_schedule
