use Rattle.std.proofs.Common.{ℕ, below_more, arith}
use Rattle.std.specs.Prelude.{slice_index}
use Rattle.critical.specs.inside.Trails.{IsSlackOn}
use Rattle.critical.proofs.TightNeeds.{not-all-slack, slack-before}
use Rattle.critical.proofs.tight.tight_need.Goals as goal

pub loop-channel-preserved : goal.loop-channel-preserved
loop-channel-preserved g c =
    below_more (λ (j : ℕ). IsSlackOn (g.F.Firing.net c.args.net.now) c.args.table.now c.args.later (slice_index c.args.inputs.now j)) c.loop-channel.channel-index c.loop-channel.invariant c.in_default.ensures.need

pub unreachable-requires : goal.unreachable-requires
unreachable-requires g c =
    not-all-slack (g.F.Firing.net c.args.net.now) c.requires.table.laws c.args.table.now c.requires.table c.args.later c.requires.second c.args.inputs.now c.requires.listed
    (λ j below. c.loop-channel.invariant j (omega (arith, c.loop-channel-test.false)))

pub returns-in-Some-clause-first : goal.returns-in-Some-clause-first
returns-in-Some-clause-first g c =
    rw c.in-Some.ensures.channel
    (slack-before (g.F.Firing.net c.args.net.now) c.requires.table.laws c.args.table.now c.requires.table c.args.later c.requires.second c.args.inputs.now c.loop-channel.channel-index c.requires.listed c.loop-channel-test.true c.loop-channel.invariant)
