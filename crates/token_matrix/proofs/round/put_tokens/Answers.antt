use Rattle.std.proofs.Common.{◌++◌, ◌<◌, List, Option, ℕ, length, replicate, ap, refl, ◌∙◌, arith}
use Rattle.std.specs.Prelude.{slice_index}
use Rattle.token_matrix.specs.inside.Lines.{line_at, made_on}
use Rattle.token_matrix.proofs.ChannelLines.{put_more, put_all, put_none, read_line}
use Rattle.token_matrix.proofs.round.put_tokens.Goals as goal

pub loop-channel-init : goal.loop-channel-init
loop-channel-init g c = put_none (g.F.Firing.net c.args.net.now) c.args.row.now.value c.args.outputs.now c.args.lines.now c.requires.long

pub loop-channel-preserved : goal.loop-channel-preserved
loop-channel-preserved g c =
    let place : slice_index c.args.outputs.now c.loop-channel.channel-index < length c.loop-channel.lines = omega (arith, c.requires.listed.place c.loop-channel.channel-index c.loop-channel-test.true, c.requires.long, c.loop-channel.auto.lines) in
    put_more (g.F.Firing.net c.args.net.now) c.args.row.now.value c.args.actor c.args.outputs.now c.requires.listed c.args.lines.now c.loop-channel.lines c.loop-channel.channel-index
    (slice_index c.args.outputs.now c.loop-channel.channel-index) c.loop-channel-test.true refl c.loop-channel.invariant c.put.new.self
    (c.in_ok-put.ensures ∙ ap (λ (l : List (List (Option ℕ))). l ++ replicate c.made-tokens.result c.in_ok-clone.field-0.value) (read_line c.loop-channel.lines (slice_index c.args.outputs.now c.loop-channel.channel-index) c.index-lines-channel.result place)
    ∙ ap (λ (n : ℕ). line_at c.loop-channel.lines (slice_index c.args.outputs.now c.loop-channel.channel-index) ++ replicate n c.in_ok-clone.field-0.value) c.made-tokens.ensures
    ∙ ap (λ (r : List (Option ℕ)). line_at c.loop-channel.lines (slice_index c.args.outputs.now c.loop-channel.channel-index) ++ replicate (made_on (g.F.Firing.net c.args.net.now) (slice_index c.args.outputs.now c.loop-channel.channel-index)) r) c.in_ok-clone.ensures.cases)

pub returns : goal.returns
returns g c = put_all (g.F.Firing.net c.args.net.now) c.args.row.now.value c.args.actor c.args.outputs.now c.args.lines.now c.loop-channel.lines c.loop-channel.channel-index c.requires.listed
    (omega (arith, c.loop-channel-test.false, c.loop-channel.auto.channel-index-end)) c.loop-channel.invariant
