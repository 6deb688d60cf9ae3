use Rattle.std.proofs.Common.{inl, inr, arith, below_more}
use Rattle.need_loops.proofs.DueRowsAreSelfTimed.{IsDone, next-at, whole}
use Rattle.need_loops.proofs.needs.are_whole.Goals as goal
use Rattle.need_loops.proofs.needs.are_whole.Goals.{in-Some+else-start-until, in_default}

pub next_start-requires-clause-due : goal.next_start-requires-clause-due
next_start-requires-clause-due g c = (c.args.until, c.requires.soon, c.requires.due)

pub next_start-requires-clause-next : goal.next_start-requires-clause-next
next_start-requires-clause-next g c =
    rw c.index-firings-actor.is (next-at (g.F.Firing.net c.args.net.now) c.args.starts.now c.args.firings.now c.loop-actor.actor c.index-firings-actor.result (omega arith) c.requires.next)

pub loop-actor-preserved : goal.loop-actor-preserved
loop-actor-preserved g c =
    let done : IsDone (g.F.Firing.net c.args.net.now) c.args.starts.now c.args.until c.loop-actor.actor =
    elim c.match-next_start.branch [
      | in-Some+else-start-until w ↦ inr (w.in-Some.start, w.in-Some.ensures, w.if-start-until.false)
      | in_default w ↦ inl w.in_default.ensures
    ] in
    below_more _ _ c.loop-actor.invariant done

pub returns : goal.returns
returns g c result =
    whole (g.F.Firing.net c.args.net.now) c.know_laws.ensures c.requires.inputs c.args.until c.args.starts.now c.requires.due (λ a actor. c.loop-actor.invariant a (omega arith))
