use Rattle.storage.specs.BoundedNets.{bound}
use Rattle.storage.proofs.BlockingStays.{blocks-still}
use Rattle.storage.proofs.BlockingForcesZero.{bound-timed, bound-wired, bound-balanced, blocked-zero}
use Rattle.storage.proofs.laws.blocked_nets_stay_blocked.Goals as goal

pub returns-clause-still : goal.returns-clause-still
returns-clause-still c = λ net ds es v same blocks. blocks-still net ds es v same blocks

pub returns-clause-zero : goal.returns-clause-zero
returns-clause-zero c = λ net ds v p q laws blocks rate.
    blocked-zero (bound net ds) (bound-timed net laws ds) (bound-wired net laws ds) (bound-balanced net laws ds) v blocks p q rate
