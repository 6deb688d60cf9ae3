use Rattle.std.proofs.Common.{ℕ, below_more, arith}
use Rattle.std.specs.Prelude.{slice_index}
use Rattle.critical.specs.inside.Searches.{HasLeftOn}
use Rattle.critical.proofs.SearchTurns.{left-all}
use Rattle.critical.proofs.unspaced.Pass.open_need.Goals as goal

pub loop-channel-preserved : goal.loop-channel-preserved
loop-channel-preserved g c =
    below_more (λ (j : ℕ). HasLeftOn (g.F.Firing.net c.args.self.now.wired.now.net.now) c.args.self.now.table.now c.args.met.now c.args.marks.now c.args.later (slice_index c.args.inputs.now j)) c.loop-channel.channel-index c.loop-channel.invariant c.in_default.ensures

pub returns : goal.returns
returns g c =
    left-all (g.F.Firing.net c.args.self.now.wired.now.net.now) c.args.self.now.table.now c.args.met.now c.args.marks.now c.args.later c.args.inputs.now c.requires.listed
    (λ j below. c.loop-channel.invariant j (omega (arith, c.loop-channel-test.false)))
