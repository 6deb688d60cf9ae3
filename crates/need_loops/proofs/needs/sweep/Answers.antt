use Rattle.std.proofs.Common.{arith}
use Rattle.need_loops.proofs.DueRowsAreSelfTimed.{next-at, next-set}
use Rattle.need_loops.proofs.needs.sweep.Goals as goal
use Rattle.need_loops.proofs.needs.sweep.Goals.{then-flags-actor+in_ok-extend+then-branch, then-flags-actor+in_ok-extend+else-branch, else-flags-actor}

pub extend-requires-clause-next : goal.extend-requires-clause-next
extend-requires-clause-next g c =
    next-at (g.F.Firing.net c.args.wired.now.net.now) c.loop-actor.starts c.loop-actor.firings c.loop-actor.actor c.index-firings-actor.result (omega arith) c.loop-actor.invariant.nexts

pub loop-actor-preserved : goal.loop-actor-preserved
loop-actor-preserved g c =
    elim c.if-flags-actor.branch [
      | then-flags-actor+in_ok-extend+then-branch w ↦ record {
        due = rw w.starts-is w.in_ok-extend.ensures.due;
        nexts = rw (w.starts-is, w.firings-is) (next-set (g.F.Firing.net c.args.wired.now.net.now) c.loop-actor.starts w.extend.new.starts c.loop-actor.firings c.loop-actor.actor w.extend.new.next
            c.loop-actor.invariant.nexts w.extend.ensures.others w.in_ok-extend.ensures.next);
      }
      | then-flags-actor+in_ok-extend+else-branch w ↦ record {
        due = rw w.starts-is w.in_ok-extend.ensures.due;
        nexts = rw (w.starts-is, w.firings-is) (next-set (g.F.Firing.net c.args.wired.now.net.now) c.loop-actor.starts w.extend.new.starts c.loop-actor.firings c.loop-actor.actor w.extend.new.next
            c.loop-actor.invariant.nexts w.extend.ensures.others w.in_ok-extend.ensures.next);
      }
      | else-flags-actor w ↦ record { due = rw w.starts-is c.loop-actor.invariant.due; nexts = rw (w.starts-is, w.firings-is) c.loop-actor.invariant.nexts }
    ]
