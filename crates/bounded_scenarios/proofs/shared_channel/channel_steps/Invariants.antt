use Rattle.std.proofs.Common.{◌≡◌, map, take}
use Rattle.levels.specs.Frontiers.{channel_step}
use Rattle.bounded_scenarios.specs.SharedChannels.{shared_channels_from}
use Rattle.bounded_scenarios.proofs.shared_channel.channel_steps.Given as goal

abbrev pub invariant-loop-row : goal.invariant-loop-row
invariant-loop-row l = l.steps ≡ map channel_step (shared_channels_from l.file.scenarios 0 (take l.row-index l.file.shared))
