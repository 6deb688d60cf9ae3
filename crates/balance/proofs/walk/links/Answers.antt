use Rattle.std.proofs.Common.{◌≡◌, ℕ, ◌<◌, ◌≤◌, List, Some, length, sum, subst, refl, arith}
use Rattle.std.specs.Prelude.{slice_get, slice_index_or}
use Rattle.std.proofs.lemmas.Option.{slice_get_read}
use Rattle.sd_base.specs.declared.tables.GraphFile.{GraphFile}
use Rattle.sd_base.specs.declared.tables.ChannelRow.{ChannelRow}
use Rattle.sd_base.specs.Tables.{KeepsRules}
use Rattle.balance.proofs.RulesBoundLinks.{channel_sums}
use Rattle.balance.proofs.walk.links.Goals as goal

-- the channel that the loop reads
sums : (g : GraphFile) → KeepsRules g → (items : List ChannelRow) → items ≡ g.channels → (k : ℕ) (c : ChannelRow) → k < length items → c ≡ slice_index_or items k c
    → (sum c.made ≤ 4096000000) × (sum c.taken ≤ 4096000000)
sums g rules items e k c lt is =
    channel_sums g rules k c (subst (λ (xs : List ChannelRow). slice_get xs k ≡ Some c) e (slice_get_read items (length items) k c refl lt is))

pub summed-requires-clause-made : goal.summed-requires-clause-made
summed-requires-clause-made c =
    let s = sums c.args.graph.now c.requires c.as_slice-channel-items.result.now c.as_slice-channel-items.ensures c.loop-channel.channel-index c.channel-item.result c.loop-channel-test.true c.channel-item.is in
    omega (arith, s.0)

pub summed-requires-clause-taken : goal.summed-requires-clause-taken
summed-requires-clause-taken c =
    let s = sums c.args.graph.now c.requires c.as_slice-channel-items.result.now c.as_slice-channel-items.ensures c.loop-channel.channel-index c.channel-item.result c.loop-channel-test.true c.channel-item.is in
    omega (arith, s.1)
