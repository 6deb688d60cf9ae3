use Rattle.std.proofs.Common.{refl}
use Rattle.std.specs.Prelude.{slice_index}
use Rattle.firing.proofs.TokenMoves.{first-lack, no-lack}
use Rattle.firing.proofs.tokens.first_lack.Goals as goal

pub returns-then-tokens-channel : goal.returns-then-tokens-channel
returns-then-tokens-channel g c =
    first-lack (g.F.Firing.net c.args.net.now) c.args.inputs.now c.args.tokens.now c.args.actor c.args.firing c.loop-channel.channel-index
    (slice_index c.args.inputs.now c.loop-channel.channel-index) c.requires.listed c.loop-channel-test.true refl c.loop-channel.invariant (rw c.taken_by.ensures at c.if-tokens-channel.true)

pub returns : goal.returns
returns g c =
    no-lack (g.F.Firing.net c.args.net.now) c.args.inputs.now c.args.tokens.now c.args.actor c.args.firing c.loop-channel.channel-index
    c.requires.listed c.loop-channel-test.false c.loop-channel.invariant
