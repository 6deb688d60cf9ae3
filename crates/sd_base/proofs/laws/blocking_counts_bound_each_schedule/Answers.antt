use Rattle.sd_base.proofs.LawfulIsRegular.{timed, wired, balanced}
use Rattle.sd_base.proofs.ClosedCountsBoundRuns.{blocked-bounds, live-unblocked}
use Rattle.sd_base.proofs.FiringOrdersEnd.{live_or_blocked}
use Rattle.sd_base.proofs.laws.blocking_counts_bound_each_schedule.Goals as goal

pub returns-clause-bound : goal.returns-clause-bound
returns-clause-bound c = λ net v s laws blocks good. blocked-bounds net v (timed net laws) (wired net laws) (balanced net laws) blocks s good

pub returns-clause-live : goal.returns-clause-live
returns-clause-live c = λ net v laws live. live-unblocked net (wired net laws) live v

pub returns-clause-ends : goal.returns-clause-ends
returns-clause-ends c = λ net. live_or_blocked net
