use Rattle.std.proofs.Common.{arith}
use Rattle.sd_base.specs.Net.{channel_at}
use Rattle.firing.proofs.PortSums.{turn-none, turn-more}
use Rattle.firing.proofs.net.Firing.taken_before.Goals as goal

pub loop-phase-init : goal.loop-phase-init
loop-phase-init g c = record { sum = turn-none _; small = omega arith }

pub overflow_add-sum : goal.overflow_add-sum
overflow_add-sum g c = omega (arith, c.taken-sum.ensures, (g.met.Self.Firing.lawful c.args.self.now).small_taken c.args.channel c.loop-phase.phase c.requires.channel, c.loop-phase.invariant.small)

pub loop-phase-preserved : goal.loop-phase-preserved
loop-phase-preserved g c = record {
  sum = turn-more (channel_at (g.Self.Firing.net c.args.self.now) c.args.channel).taken c.loop-phase.phase c.loop-phase.sum c.taken-sum.result c.loop-phase.invariant.sum (omega (arith, c.requires.phases, c.loop-phase-test.true)) c.taken-sum.ensures;
  small = omega (arith, c.taken-sum.ensures, (g.met.Self.Firing.lawful c.args.self.now).small_taken c.args.channel c.loop-phase.phase c.requires.channel, c.loop-phase.invariant.small);
}
