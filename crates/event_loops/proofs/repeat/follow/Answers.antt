use Rattle.std.proofs.Common.{◌<◌, ◌-◌, ◌∙◌, arith}
use Rattle.event_loops.proofs.LiveEnginesGoOn.{running-few}
use Rattle.event_loops.proofs.FirstRepeatFound.{follows-next}
use Rattle.event_loops.proofs.repeat.follow.Goals as goal

pub next_event-requires-clause-runs : goal.next_event-requires-clause-runs
next_event-requires-clause-runs g c = rw c.events.invariant.net c.requires.runs

pub next_event-requires-clause-few : goal.next_event-requires-clause-few
next_event-requires-clause-few g c =
    let ahead : c.events.trail.moment < c.args.end = omega (arith, c.events-test.true, c.moment.ensures) in
    rw c.events.invariant.net (rw c.events.invariant.most (λ t next. running-few (g.F.Firing.net c.args.trail.now.net.now) (g.met.F.Firing.lawful c.args.trail.now.net.now) c.requires.runs.inputs c.args.trail.now.most c.events.trail.moment t c.args.end c.events.trail.stage
    c.events.invariant.running next c.requires.event ahead c.requires.few))

pub events-preserved : goal.events-preserved
events-preserved g c =
    let behind : c.events.trail.moment < c.args.end - c.args.period = omega (arith, c.events-test.true, c.moment.ensures) in
    record {
      net = c.next_event.ensures.net ∙ c.events.invariant.net;
      most = c.next_event.ensures.most ∙ c.events.invariant.most;
      running = c.in_ok-next_event.ensures.running;
      follows = follows-next (g.F.Firing.net c.args.trail.now.net.now) c.args.period c.args.end c.events.trail.moment c.next_event.new.engine.moment c.events.invariant.follows behind
          (rw c.events.invariant.running at (rw c.events.invariant.net at c.in_ok-next_event.ensures.next));
    }
