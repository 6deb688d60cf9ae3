use Rattle.std.proofs.Common.{refl}
use Rattle.std.specs.Prelude.{slice_index}
use Rattle.firing.specs.declared.sums.Port.TheVariants.{Taken}
use Rattle.firing.proofs.TokenMoves.{first-lack, no-lack}
use Rattle.selftimed.proofs.OwnChannels.{listed-whole}
use Rattle.selftimed.proofs.starts.Turn.lacking_input.Goals as goal

pub returns-then-tokens-channel : goal.returns-then-tokens-channel
returns-then-tokens-channel g c =
    first-lack (g.F.Firing.net c.args.self.now.net.now) c.args.self.now.inputs.now c.args.tokens.now c.args.self.now.actor c.args.firing c.loop-channel.channel-index
    (slice_index c.args.self.now.inputs.now c.loop-channel.channel-index)
    (listed-whole (g.F.Firing.net c.args.self.now.net.now) Taken c.args.self.now.actor c.args.self.now.own c.args.self.now.inputs.now c.requires.others c.args.self.now.listed)
    c.loop-channel-test.true refl c.loop-channel.invariant (rw c.taken_at.ensures at c.if-tokens-channel.true)

pub returns : goal.returns
returns g c =
    no-lack (g.F.Firing.net c.args.self.now.net.now) c.args.self.now.inputs.now c.args.tokens.now c.args.self.now.actor c.args.firing c.loop-channel.channel-index
    (listed-whole (g.F.Firing.net c.args.self.now.net.now) Taken c.args.self.now.actor c.args.self.now.own c.args.self.now.inputs.now c.requires.others c.args.self.now.listed)
    c.loop-channel-test.false c.loop-channel.invariant
