use Rattle.storage.proofs.SpacesJoinEnds.{bound-strong}
use Rattle.storage.proofs.BlockedRates.{blocked-rate}
use Rattle.storage.proofs.laws.blocked_nets_have_rate_zero.Goals as goal

pub returns-clause-strong : goal.returns-clause-strong
returns-clause-strong c = λ net ds dist connected. bound-strong net ds dist connected

pub returns-clause-rate : goal.returns-clause-rate
returns-clause-rate c = λ net v laws inputs strong blocks. blocked-rate net laws inputs strong v blocks
