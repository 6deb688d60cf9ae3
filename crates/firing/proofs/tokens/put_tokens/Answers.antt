use Rattle.std.proofs.Common.{◌∙◌, arith}
use Rattle.firing.proofs.TokenMoves.{put-step, puts-done}
use Rattle.firing.proofs.tokens.put_tokens.Goals as goal

pub loop-channel-preserved : goal.loop-channel-preserved
loop-channel-preserved g c =
    put-step (g.F.Firing.net c.args.net.now) c.args.actor c.args.from c.args.firings c.args.outputs.now c.args.tokens.now c.loop-channel.tokens c.loop-channel.channel-index c.span_sum-all.result
    c.requires.listed c.loop-channel-test.true (c.loop-channel.auto.tokens ∙ c.requires.tokens) c.span_sum-all.ensures.sum c.loop-channel.invariant

pub returns : goal.returns
returns g c =
    puts-done (g.F.Firing.net c.args.net.now) c.args.actor c.args.from c.args.firings c.args.outputs.now c.args.tokens.now c.loop-channel.tokens c.loop-channel.channel-index
    c.requires.listed (omega (arith, c.loop-channel-test.false, c.loop-channel.auto.channel-index-end)) c.loop-channel.invariant
