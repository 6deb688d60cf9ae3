use Rattle.std.proofs.Common.{◌∙◌, ◌+◌, ◌^◌, ◌≤◌, ◌<◌, arith}
use Rattle.std.specs.Prelude.{slice_index}
use Rattle.std.proofs.lemmas.List.{length-set}
use Rattle.selftimed.proofs.OwnChannels.{if-own, own-long, put-same, put-next, own-small, puts-whole}
use Rattle.selftimed.proofs.ends.DueActor.put_all.Goals as goal

pub loop-channel-preserved : goal.loop-channel-preserved
loop-channel-preserved g c = record {
  so_far = rw c.put.ensures (put-next (g.F.Firing.net c.args.self.now.net.now) (g.met.F.Firing.lawful c.args.self.now.net.now) c.args.self.now.actor c.args.self.now.own c.args.self.now.owned c.args.from c.args.firings c.args.self.now.outputs.now c.args.tokens.now c.loop-channel.tokens
      c.args.self.now.listed c.loop-channel.invariant.long c.loop-channel.channel-index c.moved_span-all.result c.loop-channel-test.true c.loop-channel.invariant.so_far c.moved_span-all.ensures.sum);
  long = rw c.put.ensures (length-set c.loop-channel.tokens (slice_index c.args.self.now.outputs.now c.loop-channel.channel-index) _ ∙ c.loop-channel.invariant.long);
}

pub put-requires-clause-channel : goal.put-requires-clause-channel
put-requires-clause-channel g c = omega (arith, c.args.self.now.listed.place c.loop-channel.channel-index c.loop-channel-test.true, c.loop-channel.invariant.long)

pub put-requires-clause-small : goal.put-requires-clause-small
put-requires-clause-small g c =
    let place = c.args.self.now.listed.place c.loop-channel.channel-index c.loop-channel-test.true in
    let same = put-same (g.F.Firing.net c.args.self.now.net.now) (g.met.F.Firing.lawful c.args.self.now.net.now) c.args.self.now.actor c.args.self.now.own c.args.self.now.owned c.args.from c.args.firings c.args.self.now.outputs.now c.args.tokens.now c.loop-channel.tokens
    c.args.self.now.listed c.loop-channel.invariant.long c.loop-channel.channel-index c.moved_span-all.result c.loop-channel-test.true c.loop-channel.invariant.so_far in
    omega (arith, same, c.requires.small (slice_index c.args.self.now.outputs.now c.loop-channel.channel-index) place, c.moved_span-all.ensures.small, c.requires.few)

pub put_own-requires-clause-small : goal.put_own-requires-clause-small
put_own-requires-clause-small g c =
    if-own (λ i. slice_index c.loop-channel.tokens i ≤ 2 ^ 60) (λ i. slice_index c.loop-channel.tokens i + c.args.firings < 2 ^ 64) c.args.self.now.own (λ i is low. omega (arith, c.requires.few))
    (own-small (g.F.Firing.net c.args.self.now.net.now) (g.met.F.Firing.lawful c.args.self.now.net.now) c.args.self.now.actor c.args.self.now.own c.args.self.now.owned c.args.from c.args.firings c.args.self.now.outputs.now c.args.tokens.now c.loop-channel.tokens
    c.args.self.now.listed c.loop-channel.invariant.long c.loop-channel.channel-index c.loop-channel-test.false c.loop-channel.auto.channel-index-end c.loop-channel.invariant.so_far (2 ^ 60) c.requires.small)

pub returns-clause-puts : goal.returns-clause-puts
returns-clause-puts g c =
    puts-whole (g.F.Firing.net c.args.self.now.net.now) (g.met.F.Firing.lawful c.args.self.now.net.now) c.args.self.now.actor c.args.self.now.own c.args.self.now.owned c.args.from c.args.firings c.args.self.now.outputs.now c.args.tokens.now c.loop-channel.tokens
    c.args.self.now.listed c.loop-channel.invariant.long c.loop-channel.channel-index c.loop-channel-test.false c.loop-channel.auto.channel-index-end c.loop-channel.invariant.so_far c.put_own.new.tokens c.put_own.ensures

pub returns-clause-long : goal.returns-clause-long
returns-clause-long g c = own-long (λ i. slice_index c.loop-channel.tokens i + c.args.firings) c.args.self.now.own c.loop-channel.tokens c.put_own.new.tokens c.put_own.ensures ∙ omega (arith, c.loop-channel.invariant.long, c.requires.tokens)
