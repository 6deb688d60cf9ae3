use Rattle.guide.proofs.OtherRoomGainsNothing.{counts-bound, elsewhere-slower}
use Rattle.guide.proofs.laws.room_elsewhere_gains_nothing.Goals as goal

pub returns-clause-dependencies : goal.returns-clause-dependencies
returns-clause-dependencies c = elsewhere-slower

pub returns-clause-blocked : goal.returns-clause-blocked
returns-clause-blocked c = counts-bound
