use Rattle.std.proofs.Common.{◌≡◌, map, take}
use Rattle.graph_reader.specs.Sections.{channel_row}
use Rattle.graph_reader.proofs.table.channel_rows.Given as goal

abbrev pub invariant-loop-channel : goal.invariant-loop-channel
invariant-loop-channel l = l.rows ≡ map (channel_row l.phases l.sizes) (take l.channel-index l.channels)
