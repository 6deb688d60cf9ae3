use Rattle.sd_base.proofs.LawfulIsRegular.{regular}
use Rattle.sd_base.proofs.EarliestExists.{earliest-is}
use Rattle.sd_base.proofs.FiringsKeepOrder.{earliest-equal}
use Rattle.sd_base.proofs.laws.self_timed_is_earliest.Goals as goal

pub returns-clause-exists : goal.returns-clause-exists
returns-clause-exists c = λ net t laws inputs. earliest-is net (regular net laws) inputs t

pub returns-clause-one : goal.returns-clause-one
returns-clause-one c = λ net t s u one other. earliest-equal net t s u one other

pub returns-clause-no_sooner : goal.returns-clause-no_sooner
returns-clause-no_sooner c = λ net s laws inputs good t a k below soon. (earliest-is net (regular net laws) inputs t).least s good a k below soon
