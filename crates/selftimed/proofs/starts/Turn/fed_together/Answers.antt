use Rattle.std.proofs.Common.{arith}
use Rattle.selftimed.proofs.FiringsStartTogether.{batch-none, batch-lower, batch-keep, batch-feeds, batch-fits}
use Rattle.selftimed.proofs.starts.Turn.fed_together.Goals as goal
use Rattle.selftimed.proofs.starts.Turn.fed_together.Goals.{then-count-firings, else-count-firings}

pub loop-channel-init : goal.loop-channel-init
loop-channel-init g c =
    batch-none (g.F.Firing.net c.args.self.now.net.now) c.args.self.now.actor c.args.self.now.own c.args.self.now.inputs.now c.args.tokens.now c.args.most _ _ c.fed_by_own-first.ensures.within c.fed_by_own-first.ensures.feeds c.fed_by_own-first.ensures.lacks

pub loop-channel-preserved : goal.loop-channel-preserved
loop-channel-preserved g c = elim c.if-count-firings.branch [
  | then-count-firings w ↦ rw (w.firings-is, w.lacking-is) (batch-lower (g.F.Firing.net c.args.self.now.net.now) c.know_laws.ensures c.args.self.now.actor c.args.self.now.own c.args.self.now.inputs.now c.args.tokens.now c.args.self.now.listed c.requires.single
      c.args.most c.loop-channel.firings c.loop-channel.lacking c.loop-channel.channel-index w.times_in-firings.result c.loop-channel-test.true
      (rw c.taken-rate.ensures at w.times_in-firings.ensures.fits) (rw c.taken-rate.ensures at w.times_in-firings.ensures.next) (rw c.taken-rate.ensures at w.if-count-firings.true) c.loop-channel.invariant)
  | else-count-firings w ↦ rw (w.firings-is, w.lacking-is) (batch-keep (g.F.Firing.net c.args.self.now.net.now) c.know_laws.ensures c.args.self.now.actor c.args.self.now.own c.args.self.now.inputs.now c.args.tokens.now c.args.self.now.listed c.requires.single
      c.args.most c.loop-channel.firings c.loop-channel.lacking c.loop-channel.channel-index (rw c.taken-rate.ensures at w.if-count-firings.false) c.loop-channel.invariant)
]

pub overflow_mul-firings : goal.overflow_mul-firings
overflow_mul-firings g c =
    omega (
      arith,
      rw (← c.taken-rate.ensures) at (batch-fits (g.F.Firing.net c.args.self.now.net.now) c.know_laws.ensures c.args.self.now.actor c.args.self.now.own c.args.self.now.inputs.now c.args.tokens.now c.args.self.now.listed c.requires.single
          c.args.most c.loop-channel.firings c.loop-channel.channel-index c.requires.few c.loop-channel.invariant.within c.loop-channel-test.true),
    )

pub returns-clause-feeds : goal.returns-clause-feeds
returns-clause-feeds g c =
    batch-feeds (g.F.Firing.net c.args.self.now.net.now) c.know_laws.ensures c.args.self.now.actor c.args.self.now.own c.args.self.now.inputs.now c.args.tokens.now c.args.self.now.listed c.requires.single
    c.args.most c.loop-channel.firings c.loop-channel.lacking c.loop-channel.channel-index c.args.self.now.owned c.loop-channel-test.false c.loop-channel.invariant
