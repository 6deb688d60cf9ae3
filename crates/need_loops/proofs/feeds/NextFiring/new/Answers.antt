use Rattle.std.proofs.Common.{◌≡◌, ◌++◌, [], ◌∷◌}
use Rattle.need_loops.proofs.FeedsGoOn.{first-pause, first-push, first-next}
use Rattle.need_loops.proofs.feeds.NextFiring.new.Goals as goal
use Rattle.need_loops.proofs.feeds.NextFiring.new.Goals.{in-Some, in-None+in_ok-push-in-None}

pub loop-channel-preserved : goal.loop-channel-preserved
loop-channel-preserved g c = elim c.match-pause_of.branch [
  | in-Some w ↦
      rw (w.pause-is, w.feeds-is) (first-pause (g.F.Firing.net c.args.wired.now.net.now) c.args.actor c.inputs_of-inputs.result.now c.loop-channel.channel-index c.loop-channel.pause w.in-Some.time c.loop-channel.feeds.items
      c.inputs_of-inputs.ensures c.loop-channel-test.true c.loop-channel.invariant w.in-Some.ensures)
  | in-None+in_ok-push-in-None w ↦
      let pushed : c.match-pause_of.feeds.items ≡ c.loop-channel.feeds.items ++ w.new.result ∷ [] = cc (w.in_ok-push-in-None.ensures.items, w.feeds-is) in
      rw (w.pause-is, pushed) (first-push (g.F.Firing.net c.args.wired.now.net.now) c.args.actor c.inputs_of-inputs.result.now c.loop-channel.channel-index c.loop-channel.pause c.loop-channel.feeds.items w.new.result
      c.inputs_of-inputs.ensures c.loop-channel-test.true c.loop-channel.invariant w.new.ensures)
]

pub returns : goal.returns
returns g c = first-next (g.F.Firing.net c.args.wired.now.net.now) c.args.actor c.inputs_of-inputs.result.now c.loop-channel.channel-index _ c.inputs_of-inputs.ensures c.loop-channel-test.false c.loop-channel.invariant
