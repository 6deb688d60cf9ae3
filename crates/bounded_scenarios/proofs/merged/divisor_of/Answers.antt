use Rattle.std.proofs.Common.{arith}
use Rattle.storage.proofs.ChannelSteps.{none-divide, more-divide, all-divide}
use Rattle.bounded_scenarios.proofs.merged.divisor_of.Goals as goal

pub loop-rate-init : goal.loop-rate-init
loop-rate-init c = λ d. none-divide c.args.rates.now d

pub loop-rate-preserved : goal.loop-rate-preserved
loop-rate-preserved c = more-divide c.args.rates.now c.loop-rate.divisor c.gcd-divisor.result c.loop-rate.rate-index c.gcd-divisor.ensures c.loop-rate.invariant

pub returns : goal.returns
returns c = all-divide c.args.rates.now c.loop-rate.divisor c.loop-rate.rate-index (omega (arith, c.loop-rate-test.false)) c.loop-rate.invariant
