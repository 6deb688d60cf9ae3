use Rattle.std.proofs.Common.{◌≡◌, ◌<◌, ◌∙◌, length, arith}
use Rattle.std.specs.Prelude.{slice_index}
use Rattle.firing.proofs.TokenMoves.{put-same, put-step, puts-done}
use Rattle.liveness.proofs.TokensFeedSeries.{made-series}
use Rattle.liveness.proofs.series.put_series.Goals as goal

pub overflow_add-tokens : goal.overflow_add-tokens
overflow_add-tokens g c =
    let place : slice_index c.args.outputs.now c.loop-channel.channel-index < length (g.F.Firing.net c.args.net.now).channels = c.requires.listed.place c.loop-channel.channel-index c.loop-channel-test.true in
    let same : slice_index c.loop-channel.tokens (slice_index c.args.outputs.now c.loop-channel.channel-index) ≡ slice_index c.args.tokens.now (slice_index c.args.outputs.now c.loop-channel.channel-index) =
    put-same (g.F.Firing.net c.args.net.now) c.args.actor c.args.from c.args.firings c.args.outputs.now c.args.tokens.now c.loop-channel.tokens c.loop-channel.channel-index c.series_tokens-all.result
    c.requires.listed c.loop-channel-test.true (c.loop-channel.auto.tokens ∙ c.requires.tokens) c.loop-channel.invariant in
    omega (arith, same, c.requires.small (slice_index c.args.outputs.now c.loop-channel.channel-index) place, c.series_tokens-all.ensures.small, c.ranges.firings.fits)

pub loop-channel-preserved : goal.loop-channel-preserved
loop-channel-preserved g c =
    put-step (g.F.Firing.net c.args.net.now) c.args.actor c.args.from c.args.firings c.args.outputs.now c.args.tokens.now c.loop-channel.tokens c.loop-channel.channel-index c.series_tokens-all.result
    c.requires.listed c.loop-channel-test.true (c.loop-channel.auto.tokens ∙ c.requires.tokens)
    (made-series (g.F.Firing.net c.args.net.now) c.know_laws.ensures (slice_index c.args.outputs.now c.loop-channel.channel-index) (c.requires.listed.place c.loop-channel.channel-index c.loop-channel-test.true)
    c.args.actor c.args.from c.args.firings c.series_tokens-all.result c.made.result (c.requires.listed.there c.loop-channel.channel-index c.loop-channel-test.true) c.requires.single c.made.ensures c.series_tokens-all.ensures.sum)
    c.loop-channel.invariant

pub returns : goal.returns
returns g c =
    puts-done (g.F.Firing.net c.args.net.now) c.args.actor c.args.from c.args.firings c.args.outputs.now c.args.tokens.now c.loop-channel.tokens c.loop-channel.channel-index
    c.requires.listed (omega (arith, c.loop-channel-test.false, c.loop-channel.auto.channel-index-end)) c.loop-channel.invariant
