use Rattle.std.proofs.Common.{◌≡◌, map, take}
use Rattle.firing.specs.Sdf.{plain_channel}
use Rattle.firing.proofs.single.channels_of.Given as goal

abbrev pub invariant-loop-channel : goal.invariant-loop-channel
invariant-loop-channel g l = map plain_channel l.channels.items ≡ take l.channel (g.F.Firing.net l.net).channels
