use Rattle.std.proofs.Common.{◌≡◌, map, take}
use Rattle.sd_command.specs.commands.LeastTimes.{pair_of}
use Rattle.sd_command.proofs.commands.least_time.pairs_of.Given as goal

abbrev pub invariant-loop-part : goal.invariant-loop-part
invariant-loop-part l = l.pairs.items ≡ map pair_of (take l.part-index l.parts)
