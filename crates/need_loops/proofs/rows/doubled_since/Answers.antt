use Rattle.std.proofs.Common.{◌≡◌, ◌+◌, ◌-◌, true}
use Rattle.sd_base.specs.SelfTimed.{IsEvent}
use Rattle.need_loops.specs.inside.Showing.{IsFirstEvent}
use Rattle.need_loops.proofs.RowLoops.{doubled-first, doubled-next}
use Rattle.need_loops.proofs.rows.doubled_since.Goals as goal
use Rattle.need_loops.proofs.rows.doubled_since.Goals.{then-event-from+then-not-is_event+in_ok-event-2, else-event-from}

pub returns-then-is_event : goal.returns-then-is_event
returns-then-is_event g c =
    let again : IsEvent (g.F.Firing.net c.args.net.now) (c.if-event-from.event + (c.args.pair.later - c.args.pair.earlier)) = c.is_event-then-event-pair.ensures.0 c.if-is_event.true in
    elim c.if-event-from.branch [
      | then-event-from+then-not-is_event+in_ok-event-2 w ↦
          let is : IsFirstEvent (g.F.Firing.net c.args.net.now) (c.args.from + 1) c.args.pair.later c.if-event-from.event = rw w.event-is w.in_ok-event-2.ensures in
          doubled-next (g.F.Firing.net c.args.net.now) c.args.from (c.args.pair.later - c.args.pair.earlier) c.args.pair.earlier c.args.pair.later c.if-event-from.event
          (λ event. let yes : w.is_event.result ≡ true = w.is_event.ensures.1 event in cc) is c.if-event-pair.true again
      | else-event-from w ↦
          let is : IsFirstEvent (g.F.Firing.net c.args.net.now) c.args.from c.args.pair.later c.if-event-from.event = rw w.event-is c.in_ok-event.ensures in
          doubled-first (g.F.Firing.net c.args.net.now) c.args.from (c.args.pair.later - c.args.pair.earlier) c.args.pair.earlier c.args.pair.later c.if-event-from.event is c.if-event-pair.true again
    ]
