use Rattle.std.proofs.Common.{◌≡◌, ◌++◌, [], ◌∷◌, arith}
use Rattle.need_loops.proofs.FeedsGoOn.{next-push, next-all}
use Rattle.need_loops.proofs.feeds.first_firings.Goals as goal

pub loop-actor-preserved : goal.loop-actor-preserved
loop-actor-preserved g c =
    let pushed : c.push.new.self.items ≡ c.loop-actor.firings.items ++ c.in_ok-new.field-0 ∷ [] = cc (c.in_ok-push.ensures.items) in
    rw pushed (next-push (g.F.Firing.net c.args.wired.now.net.now) c.loop-actor.actor c.loop-actor.firings.items c.in_ok-new.field-0 c.loop-actor.invariant c.in_ok-new.ensures)

pub returns : goal.returns
returns g c = next-all (g.F.Firing.net c.args.wired.now.net.now) c.loop-actor.actor c.loop-actor.firings.items (omega arith) c.loop-actor.invariant
