use Rattle.cert_checker.proofs.TradeOffFaults.{faultless}
use Rattle.cert_checker.proofs.TradeOffs.{front}
use Rattle.cert_checker.proofs.laws.trade_off_is_shown.Goals as goal

pub returns-clause-faultless : goal.returns-clause-faultless
returns-clause-faultless c = λ net version certificate is line reason fault. faultless net version certificate is line reason fault

pub returns-clause-front : goal.returns-clause-front
returns-clause-front c = λ net certificate corner file is_corner is. front c.cycles_bound_the_rate.ensures.rate c.rate_is_shown.ensures net certificate corner file is_corner is
