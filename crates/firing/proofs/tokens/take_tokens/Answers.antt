use Rattle.std.proofs.Common.{◌∙◌, arith}
use Rattle.firing.proofs.TokenMoves.{take-step, takes-done}
use Rattle.firing.proofs.tokens.take_tokens.Goals as goal

pub loop-channel-preserved : goal.loop-channel-preserved
loop-channel-preserved g c =
    take-step (g.F.Firing.net c.args.net.now) c.args.actor c.args.from c.args.firings c.args.inputs.now c.args.tokens.now c.loop-channel.tokens c.loop-channel.channel-index c.span_sum-all.result
    c.requires.listed c.loop-channel-test.true (c.loop-channel.auto.tokens ∙ c.requires.tokens) c.requires.enough c.span_sum-all.ensures.sum c.loop-channel.invariant

pub returns : goal.returns
returns g c =
    takes-done (g.F.Firing.net c.args.net.now) c.args.actor c.args.from c.args.firings c.args.inputs.now c.args.tokens.now c.loop-channel.tokens c.loop-channel.channel-index
    c.requires.listed (omega (arith, c.loop-channel-test.false, c.loop-channel.auto.channel-index-end)) c.loop-channel.invariant
