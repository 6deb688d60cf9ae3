use Rattle.std.proofs.Common.{◌∙◌, arith}
use Rattle.std.specs.Prelude.{slice_index}
use Rattle.firing.proofs.TokenMoves.{take-fits, take-step, takes-done}
use Rattle.liveness.proofs.TokensFeedSeries.{taken-series}
use Rattle.liveness.proofs.series.take_series.Goals as goal

pub overflow_sub-tokens : goal.overflow_sub-tokens
overflow_sub-tokens g c =
    take-fits (g.F.Firing.net c.args.net.now) c.args.actor c.args.from c.args.firings c.args.inputs.now c.args.tokens.now c.loop-channel.tokens c.loop-channel.channel-index c.series_tokens-all.result
    c.requires.listed c.loop-channel-test.true (c.loop-channel.auto.tokens ∙ c.requires.tokens) c.requires.enough
    (taken-series (g.F.Firing.net c.args.net.now) c.know_laws.ensures (slice_index c.args.inputs.now c.loop-channel.channel-index) (c.requires.listed.place c.loop-channel.channel-index c.loop-channel-test.true)
    c.args.actor c.args.from c.args.firings c.series_tokens-all.result c.taken.result (c.requires.listed.there c.loop-channel.channel-index c.loop-channel-test.true) c.requires.single c.taken.ensures c.series_tokens-all.ensures.sum)
    c.loop-channel.invariant

pub loop-channel-preserved : goal.loop-channel-preserved
loop-channel-preserved g c =
    take-step (g.F.Firing.net c.args.net.now) c.args.actor c.args.from c.args.firings c.args.inputs.now c.args.tokens.now c.loop-channel.tokens c.loop-channel.channel-index c.series_tokens-all.result
    c.requires.listed c.loop-channel-test.true (c.loop-channel.auto.tokens ∙ c.requires.tokens) c.requires.enough
    (taken-series (g.F.Firing.net c.args.net.now) c.know_laws.ensures (slice_index c.args.inputs.now c.loop-channel.channel-index) (c.requires.listed.place c.loop-channel.channel-index c.loop-channel-test.true)
    c.args.actor c.args.from c.args.firings c.series_tokens-all.result c.taken.result (c.requires.listed.there c.loop-channel.channel-index c.loop-channel-test.true) c.requires.single c.taken.ensures c.series_tokens-all.ensures.sum)
    c.loop-channel.invariant

pub returns : goal.returns
returns g c =
    takes-done (g.F.Firing.net c.args.net.now) c.args.actor c.args.from c.args.firings c.args.inputs.now c.args.tokens.now c.loop-channel.tokens c.loop-channel.channel-index
    c.requires.listed (omega (arith, c.loop-channel-test.false, c.loop-channel.auto.channel-index-end)) c.loop-channel.invariant
