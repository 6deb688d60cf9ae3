use Rattle.std.proofs.Common.{◌≡◌, ◌<◌, List, length, subst, arith}
use Rattle.std.specs.Prelude.{slice_index_or}
use Rattle.sd_base.specs.declared.tables.ChannelRow.{ChannelRow}
use Rattle.token_matrix.proofs.FirstLines.{inside_count}
use Rattle.token_matrix.proofs.making.first_lines.Goals as goal

pub first_line-requires-clause-inside : goal.first_line-requires-clause-inside
first_line-requires-clause-inside c = λ some.
    omega (
      arith,
      c.first_token-first.ensures,
      inside_count c.args.shared.now c.args.graph.now c.loop-channel.channel-index c.args.size c.channel-item.result c.requires.shares c.requires.size
          (subst (λ (l : List ChannelRow). c.loop-channel.channel-index < length l) c.as_slice-channel-items.ensures c.loop-channel-test.true)
          (subst (λ (l : List ChannelRow). c.channel-item.result ≡ slice_index_or l c.loop-channel.channel-index c.channel-item.result) c.as_slice-channel-items.ensures c.channel-item.is) some,
    )
