use Rattle.storage.specs.BoundedNets.{bound}
use Rattle.storage.proofs.NeedCyclesHold.{holds-still}
use Rattle.storage.proofs.laws.need_cycles_hold_with_more_room.Goals as goal

pub returns-clause-holds : goal.returns-clause-holds
returns-clause-holds c = λ net ds es cycle spaces most holds are agrees. holds-still net ds es most cycle spaces holds are agrees

pub returns-clause-rate : goal.returns-clause-rate
returns-clause-rate c = λ net ds es cycle spaces p q most holds are agrees laws rate.
    c.cycles_bound_the_rate.ensures.rate (bound net es) cycle p q laws (holds-still net ds es most cycle spaces holds are agrees) rate
