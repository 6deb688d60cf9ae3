use Rattle.cert_checker.proofs.BuffersHeld.{capacities-more}
use Rattle.cert_checker.proofs.buffers.distribution_of.Goals as goal

pub loop-channel-preserved : goal.loop-channel-preserved
loop-channel-preserved c = capacities-more c.args.buffers.now c.loop-channel.channel c.capacity_in.result c.loop-channel.capacities c.push.new.self c.loop-channel.invariant c.capacity_in.ensures c.in_ok-push.ensures.ok
