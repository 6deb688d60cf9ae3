use Rattle.std.proofs.Common.{◌∙◌, ◌-◌, arith}
use Rattle.std.specs.Prelude.{slice_index}
use Rattle.std.proofs.lemmas.List.{length-set}
use Rattle.selftimed.proofs.OwnChannels.{own-long, take-fits, take-next, own-enough, takes-whole}
use Rattle.selftimed.proofs.starts.Turn.take_all.Goals as goal

pub loop-channel-preserved : goal.loop-channel-preserved
loop-channel-preserved g c = record {
  so_far = rw c.take.ensures (take-next (g.F.Firing.net c.args.self.now.net.now) (g.met.F.Firing.lawful c.args.self.now.net.now) c.args.self.now.actor c.args.self.now.own c.args.self.now.owned c.args.from c.args.firings c.args.self.now.inputs.now c.args.tokens.now c.loop-channel.tokens
      c.args.self.now.listed c.loop-channel.invariant.long c.requires.enough c.loop-channel.channel-index c.moved_span-all.result c.loop-channel-test.true c.moved_span-all.ensures.sum c.loop-channel.invariant.so_far);
  long = rw c.take.ensures (length-set c.loop-channel.tokens (slice_index c.args.self.now.inputs.now c.loop-channel.channel-index) _ ∙ c.loop-channel.invariant.long);
}

pub take-requires-clause-enough : goal.take-requires-clause-enough
take-requires-clause-enough g c =
    take-fits (g.F.Firing.net c.args.self.now.net.now) (g.met.F.Firing.lawful c.args.self.now.net.now) c.args.self.now.actor c.args.self.now.own c.args.self.now.owned c.args.from c.args.firings c.args.self.now.inputs.now c.args.tokens.now c.loop-channel.tokens
    c.args.self.now.listed c.loop-channel.invariant.long c.requires.enough c.loop-channel.channel-index c.moved_span-all.result c.loop-channel-test.true c.moved_span-all.ensures.sum c.loop-channel.invariant.so_far

pub take-requires-clause-channel : goal.take-requires-clause-channel
take-requires-clause-channel g c = omega (arith, c.args.self.now.listed.place c.loop-channel.channel-index c.loop-channel-test.true, c.loop-channel.invariant.long)

pub take_own-requires-clause-enough : goal.take_own-requires-clause-enough
take_own-requires-clause-enough g c =
    own-enough (g.F.Firing.net c.args.self.now.net.now) (g.met.F.Firing.lawful c.args.self.now.net.now) c.args.self.now.actor c.args.self.now.own c.args.self.now.owned c.args.from c.args.firings c.args.self.now.inputs.now c.args.tokens.now c.loop-channel.tokens
    c.args.self.now.listed c.loop-channel.invariant.long c.requires.enough c.loop-channel.channel-index c.loop-channel-test.false c.loop-channel.auto.channel-index-end c.loop-channel.invariant.so_far

pub returns-clause-takes : goal.returns-clause-takes
returns-clause-takes g c =
    takes-whole (g.F.Firing.net c.args.self.now.net.now) (g.met.F.Firing.lawful c.args.self.now.net.now) c.args.self.now.actor c.args.self.now.own c.args.self.now.owned c.args.from c.args.firings c.args.self.now.inputs.now c.args.tokens.now c.loop-channel.tokens
    c.args.self.now.listed c.loop-channel.invariant.long c.requires.enough c.loop-channel.channel-index c.loop-channel-test.false c.loop-channel.auto.channel-index-end c.loop-channel.invariant.so_far c.take_own.new.tokens c.take_own.ensures

pub returns-clause-long : goal.returns-clause-long
returns-clause-long g c = own-long (λ i. slice_index c.loop-channel.tokens i - c.args.firings) c.args.self.now.own c.loop-channel.tokens c.take_own.new.tokens c.take_own.ensures ∙ omega (arith, c.loop-channel.invariant.long, c.requires.tokens)
