use Rattle.std.proofs.Common.{◌≡◌, map, take}
use Rattle.sd_base.specs.Net.{file_channels}
use Rattle.firing.proofs.graph_channels.file_table.Given as goal

abbrev pub invariant-loop-i : goal.invariant-loop-i
invariant-loop-i g l = map g.C.NetChannel.plain l.table.items ≡ take l.i (file_channels l.graph)
