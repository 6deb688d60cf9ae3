use Rattle.std.proofs.Common.{◌≡◌, take, map}
use Rattle.balance.specs.Walks.{link_of}
use Rattle.balance.proofs.walk.links.Given as goal

abbrev pub invariant-loop-channel : goal.invariant-loop-channel
invariant-loop-channel l = l.links.items ≡ map link_of (take l.channel-index l.channel-items)
