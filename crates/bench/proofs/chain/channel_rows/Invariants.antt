use Rattle.std.proofs.Common.{◌≡◌, All, length, replicate}
use Rattle.sd_base.specs.Tables.{ChannelKeepsRules}
use Rattle.bench.proofs.chain.channel_rows.Given as goal

abbrev pub invariant-loop-channel : goal.invariant-loop-channel
invariant-loop-channel l = (length l.rows ≡ l.channel) × All (ChannelKeepsRules (replicate l.actors 1)) l.rows
