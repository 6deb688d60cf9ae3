use Rattle.std.proofs.Common.{refl}
use Rattle.firing.proofs.PhaseLists.{sums-none, sums-more}
use Rattle.firing.proofs.phases.sums_of.Goals as goal

pub loop-rate-init : goal.loop-rate-init
loop-rate-init c = sums-none c.args.rates.now c.push.new.self.items (cc (c.in_ok-push.ensures.items, c.new-sums.ensures.items))

pub loop-rate-preserved : goal.loop-rate-preserved
loop-rate-preserved c =
    sums-more c.args.rates.now c.loop-rate.rate-index c.loop-rate.sum _ c.loop-rate.sums.items c.push-in-loop-rate.new.self.items c.requires c.loop-rate-test.true refl c.in_ok-push-2.ensures.items c.loop-rate.invariant
