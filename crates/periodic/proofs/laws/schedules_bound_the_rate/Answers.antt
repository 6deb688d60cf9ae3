use Rattle.periodic.proofs.SchedulesBoundCounts.{rounds_below}
use Rattle.periodic.proofs.laws.schedules_bound_the_rate.Goals as goal

pub returns : goal.returns
returns c = rounds_below
