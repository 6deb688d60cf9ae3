use Rattle.std.proofs.Common.{◌≡◌, take}
use Rattle.storage.specs.NamedBuffers.{capacities_of}
use Rattle.storage.proofs.buffers.buffers_of.Given as goal

abbrev pub invariant-loop-channel : goal.invariant-loop-channel
invariant-loop-channel l = l.capacities.items ≡ capacities_of (take l.channel-index l.channel-items) l.buffers
