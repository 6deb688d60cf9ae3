use Rattle.periodic.proofs.LoopsHold.{loop_holds}
use Rattle.periodic.proofs.laws.loop_schedules_hold.Goals as goal

pub returns : goal.returns
returns c = loop_holds
