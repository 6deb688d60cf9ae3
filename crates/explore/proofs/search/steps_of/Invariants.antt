use Rattle.std.proofs.Common.{◌≡◌, map, take}
use Rattle.levels.specs.Frontiers.{channel_step}
use Rattle.explore.proofs.search.steps_of.Given as goal

abbrev pub invariant-loop-channel : goal.invariant-loop-channel
invariant-loop-channel g l = l.steps.items ≡ map channel_step (take l.channel (g.F.Firing.net l.net).channels)
