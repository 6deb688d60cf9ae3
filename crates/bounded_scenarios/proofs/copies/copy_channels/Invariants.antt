use Rattle.std.proofs.Common.{◌≡◌, take}
use Rattle.bounded_scenarios.proofs.copies.copy_channels.Given as goal

abbrev pub invariant-loop-channel : goal.invariant-loop-channel
invariant-loop-channel l = l.rows ≡ take l.channel-index l.channels
