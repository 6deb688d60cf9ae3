use Rattle.cert_checker.proofs.SchedulesShowRates.{rate_shown}
use Rattle.cert_checker.proofs.laws.rate_is_shown.Goals as goal

pub returns : goal.returns
returns c = rate_shown c.schedules_bound_the_rate.ensures c.cycles_bound_the_rate.ensures.upper
