use Rattle.std.proofs.Common.{take}
use Rattle.walks.proofs.MostLacking.{IsFoundAmong}
use Rattle.walks.proofs.choosing.most_lacking.Given as goal

abbrev pub invariant-loop-channel : goal.invariant-loop-channel
invariant-loop-channel l = IsFoundAmong l.lattice.axes l.goal l.capacities (take l.channel-index l.channels) l.most l.found
