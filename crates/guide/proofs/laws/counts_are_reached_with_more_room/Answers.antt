use Rattle.guide.proofs.MoreRoom.{more-live, more-reached}
use Rattle.guide.proofs.laws.counts_are_reached_with_more_room.Goals as goal

pub returns-clause-reached : goal.returns-clause-reached
returns-clause-reached c = more-reached

pub returns-clause-live : goal.returns-clause-live
returns-clause-live c = more-live
