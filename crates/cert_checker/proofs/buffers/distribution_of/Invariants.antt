use Rattle.std.proofs.Common.{◌≡◌}
use Rattle.cert_checker.specs.NumberedBuffers.{capacities_in}
use Rattle.cert_checker.proofs.buffers.distribution_of.Given as goal

abbrev pub invariant-loop-channel : goal.invariant-loop-channel
invariant-loop-channel l = l.capacities ≡ capacities_in l.channel l.buffers
