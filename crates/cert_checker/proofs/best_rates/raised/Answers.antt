use Rattle.std.proofs.Common.{◌≡◌, length, arith}
use Rattle.cert_checker.specs.declared.best_rates.Best.{Best}
use Rattle.cert_checker.proofs.BestRates.{best-more-at, best-none}
use Rattle.cert_checker.proofs.best_rates.raised.Goals as goal

-- what stands for one past the last
abbrev past : Best
past = record { storage = 0; rate = (0, 0) }

pub loop-rate-init : goal.loop-rate-init
loop-rate-init c = best-none c.args.rates.now c.new-steps.result.items c.new-steps.ensures.items

pub loop-rate-preserved : goal.loop-rate-preserved
loop-rate-preserved c =
    best-more-at c.args.rates.now c.loop-rate.rate-index past c.loop-rate.steps.items c.push.new.self.items c.loop-rate.greatest c.greater-greatest.result c.loop-rate-test.true c.requires c.loop-rate.invariant
    c.greater-greatest.ensures.first c.greater-greatest.ensures.second c.greater-greatest.ensures.one c.in_ok-push.ensures.items

pub returns : goal.returns
returns c =
    let e : c.loop-rate.rate-index ≡ length c.args.rates.now = omega (arith, c.loop-rate-test.false, c.loop-rate.auto.rate-index-end) in record {
      size = omega (arith, e, c.loop-rate.invariant.size);
      each = λ k below. c.loop-rate.invariant.each k (omega (arith, below, c.loop-rate.invariant.size));
    }
