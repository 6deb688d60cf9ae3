use Rattle.std.proofs.Common.{◌∙◌, ◌≡◌, refl, sym, arith}
use Rattle.selftimed.specs.declared.engine.Stage.TheVariants.{Fresh, Running}
use Rattle.event_loops.proofs.VisitsCountEvents.{next-visit, ends-many, ends-spent}
use Rattle.event_loops.proofs.KeptShapesFindPairs.{many-first}
use Rattle.event_loops.proofs.FirstRepeatFound.{none-apart, differ-apart, apart-more, repeat-here, follows-later, follows-first, lead-later}
use Rattle.event_loops.proofs.StartsAddUp.{has-rows, has-before, has-fewer, has-next}
use Rattle.event_loops.proofs.repeat.first_repeat.Goals as goal

pub go_on-requires-clause-runs : goal.go_on-requires-clause-runs
go_on-requires-clause-runs g c = rw c.requires.net c.requires.runs

pub returns-then-not-branch-clause-refused : goal.returns-then-not-branch-clause-refused
returns-then-not-branch-clause-refused g c =
    let goes = rw c.requires.trail.fresh at (rw c.requires.trail.most_is at (rw c.requires.net at (rw c.if-not-branch.true at c.in_ok-go_on.ensures.goes))) in
    many-first (g.F.Firing.net c.args.lead.now.net.now) (g.met.F.Firing.lawful c.args.lead.now.net.now) c.requires.runs.inputs c.args.states goes.0 goes.1 c.requires.some goes.2

pub events-init : goal.events-init
events-init g c =
    let goes = rw c.requires.trail.fresh at (rw c.requires.net at (rw c.if-not-branch.false at c.in_ok-go_on.ensures.goes)) in
    record {
      net = refl;
      most = c.requires.lead.most_is;
      stands = rw c.requires.lead.fresh refl;
      start = λ fresh. c.requires.start;
      collected = rw c.requires.lead.fresh c.requires.starts;
      none = none-apart (g.F.Firing.net c.args.lead.now.net.now) c.args.period;
      trail_net = c.go_on.ensures.net;
      trail_most = c.go_on.ensures.most;
      trail_running = goes.0;
      follows = follows-first (g.F.Firing.net c.args.lead.now.net.now) c.args.period c.args.lead.now.moment c.go_on.new.engine.moment goes.1;
    }

pub go_on-requires-in-events-clause-runs : goal.go_on-requires-in-events-clause-runs
go_on-requires-in-events-clause-runs g c = rw c.events.invariant.net c.requires.runs

pub returns-then-not-branch-2-clause-refused : goal.returns-then-not-branch-2-clause-refused
returns-then-not-branch-2-clause-refused g c =
    let goes = rw c.events.invariant.most at (rw c.events.invariant.net at (rw c.if-not-branch-2.true at c.in_ok-go_on-2.ensures.goes)) in
    ends-many (g.F.Firing.net c.args.lead.now.net.now) (g.met.F.Firing.lawful c.args.lead.now.net.now) c.requires.runs.inputs c.events._event c.args.states c.events.lead.moment c.events.lead.stage
    (differ-apart (g.F.Firing.net c.args.lead.now.net.now) (g.met.F.Firing.lawful c.args.lead.now.net.now) c.requires.runs.inputs c.args.period c.requires.period c.events._event c.events.invariant.none) c.events.invariant.stands c.events-test.true goes

pub add_starts-requires-clause-rows : goal.add_starts-requires-clause-rows
add_starts-requires-clause-rows g c =
    let goes = rw c.events.invariant.net at (rw c.if-not-branch-2.false at c.in_ok-go_on-2.ensures.goes) in
    rw (c.go_on-in-events.ensures.net, c.events.invariant.net) (has-rows (g.F.Firing.net c.args.lead.now.net.now) (g.met.F.Firing.lawful c.args.lead.now.net.now) c.requires.runs.inputs c.events.lead.stage c.events.lead.moment c.go_on-in-events.new.engine.moment c.events.starts
    c.events.invariant.collected goes.1)

pub add_starts-requires-clause-before : goal.add_starts-requires-clause-before
add_starts-requires-clause-before g c =
    let goes = rw c.events.invariant.net at (rw c.if-not-branch-2.false at c.in_ok-go_on-2.ensures.goes) in
    rw (c.go_on-in-events.ensures.net, c.events.invariant.net) (has-before (g.F.Firing.net c.args.lead.now.net.now) (g.met.F.Firing.lawful c.args.lead.now.net.now) c.requires.runs.inputs c.events.lead.stage c.events.lead.moment c.go_on-in-events.new.engine.moment c.events.starts
    c.events.invariant.collected goes.1)

pub add_starts-requires-clause-fewer : goal.add_starts-requires-clause-fewer
add_starts-requires-clause-fewer g c =
    let goes = rw c.events.invariant.net at (rw c.if-not-branch-2.false at c.in_ok-go_on-2.ensures.goes) in
    rw (c.go_on-in-events.ensures.net, c.events.invariant.net) (has-fewer (g.F.Firing.net c.args.lead.now.net.now) (g.met.F.Firing.lawful c.args.lead.now.net.now) c.requires.runs.inputs c.events.lead.stage c.events.lead.moment c.go_on-in-events.new.engine.moment c.events.starts
    c.events.invariant.collected goes.1)

pub meets-requires-clause-runs : goal.meets-requires-clause-runs
meets-requires-clause-runs g c = rw (c.go_on-in-events.ensures.net, c.events.invariant.net) c.requires.runs

pub meets-requires-clause-event : goal.meets-requires-clause-event
meets-requires-clause-event g c =
    let goes = rw c.events.invariant.net at (rw c.if-not-branch-2.false at c.in_ok-go_on-2.ensures.goes) in
    let event = next-visit (g.F.Firing.net c.args.lead.now.net.now) (g.met.F.Firing.lawful c.args.lead.now.net.now) c.requires.runs.inputs c.events._event c.events.lead.stage c.events.lead.moment c.go_on-in-events.new.engine.moment c.events.invariant.stands goes.1 in
    rw (c.go_on-in-events.ensures.net, c.events.invariant.net) event.0

pub meets-requires-clause-follows : goal.meets-requires-clause-follows
meets-requires-clause-follows g c =
    let goes = rw c.events.invariant.net at (rw c.if-not-branch-2.false at c.in_ok-go_on-2.ensures.goes) in
    rw (c.go_on-in-events.ensures.net, c.events.invariant.net) (follows-later (g.F.Firing.net c.args.lead.now.net.now) c.args.period c.events.lead.moment c.go_on-in-events.new.engine.moment c.events.trail.moment
    (lead-later (g.F.Firing.net c.args.lead.now.net.now) (g.met.F.Firing.lawful c.args.lead.now.net.now) c.requires.runs.inputs c.events._event c.events.lead.moment c.go_on-in-events.new.engine.moment c.events.lead.stage c.events.invariant.stands goes.1 c.events.invariant.start) c.events.invariant.follows)

pub returns-then-branch-clause-found : goal.returns-then-branch-clause-found
returns-then-branch-clause-found g c =
    let goes = rw c.events.invariant.most at (rw c.events.invariant.net at (rw c.if-not-branch-2.false at c.in_ok-go_on-2.ensures.goes)) in
    rw c.moment.ensures (repeat-here (g.F.Firing.net c.args.lead.now.net.now) (g.met.F.Firing.lawful c.args.lead.now.net.now) c.requires.runs.inputs c.args.period c.requires.period c.events._event c.args.states c.events.lead.moment c.meets.new.trail.moment c.go_on-in-events.new.engine.moment c.events.lead.stage
    c.events.invariant.none c.events.invariant.stands goes.1 goes.2 c.events-test.true (rw (c.go_on-in-events.ensures.net, c.events.invariant.net) at (rw c.if-branch.true at c.in_ok-meets.ensures.met)))

pub returns-then-branch-clause-starts : goal.returns-then-branch-clause-starts
returns-then-branch-clause-starts g c =
    let goes = rw c.events.invariant.net at (rw c.if-not-branch-2.false at c.in_ok-go_on-2.ensures.goes) in
    rw c.moment.ensures (has-next (g.F.Firing.net c.args.lead.now.net.now) (g.met.F.Firing.lawful c.args.lead.now.net.now) c.requires.runs.inputs c.events.lead.stage c.events.lead.moment c.go_on-in-events.new.engine.moment c.events.starts c.add_starts.new.starts
    c.events.invariant.collected goes.1 (rw (c.go_on-in-events.ensures.net, c.events.invariant.net) at c.in_ok-add_starts.ensures))

pub events-preserved : goal.events-preserved
events-preserved g c =
    let goes = rw c.events.invariant.most at (rw c.events.invariant.net at (rw c.if-not-branch-2.false at c.in_ok-go_on-2.ensures.goes)) in
    let event = next-visit (g.F.Firing.net c.args.lead.now.net.now) (g.met.F.Firing.lawful c.args.lead.now.net.now) c.requires.runs.inputs c.events._event c.events.lead.stage c.events.lead.moment c.go_on-in-events.new.engine.moment c.events.invariant.stands goes.1 in
    record {
      net = c.go_on-in-events.ensures.net ∙ c.events.invariant.net;
      most = c.go_on-in-events.ensures.most ∙ c.events.invariant.most;
      stands = rw goes.0 (event.0, event.1, goes.2);
      collected = rw goes.0 (has-next (g.F.Firing.net c.args.lead.now.net.now) (g.met.F.Firing.lawful c.args.lead.now.net.now) c.requires.runs.inputs c.events.lead.stage c.events.lead.moment c.go_on-in-events.new.engine.moment c.events.starts c.add_starts.new.starts
          c.events.invariant.collected goes.1 (rw (c.go_on-in-events.ensures.net, c.events.invariant.net) at c.in_ok-add_starts.ensures));
      start = λ fresh. absurd (let clash : Fresh ≡ Running = sym fresh ∙ goes.0 in cc);
      none = apart-more (g.F.Firing.net c.args.lead.now.net.now) (g.met.F.Firing.lawful c.args.lead.now.net.now) c.requires.runs.inputs c.args.period c.requires.period c.events._event c.go_on-in-events.new.engine.moment c.events.invariant.none event.0 event.1
          (rw (c.go_on-in-events.ensures.net, c.events.invariant.net) at (rw c.if-branch.false at c.in_ok-meets.ensures.met));
      trail_net = c.meets.ensures.net ∙ c.events.invariant.trail_net;
      trail_most = c.meets.ensures.most ∙ c.events.invariant.trail_most;
      trail_running = c.in_ok-meets.ensures.running;
      follows = rw (c.go_on-in-events.ensures.net, c.events.invariant.net) at c.in_ok-meets.ensures.follows;
    }

pub returns-clause-refused : goal.returns-clause-refused
returns-clause-refused g c =
    let all : c.events._event ≡ c.args.states = omega (arith, c.events-test.false, c.events.auto._event-end) in
    ends-spent (g.F.Firing.net c.args.lead.now.net.now) c.args.states c.events.lead.moment c.events.lead.stage (rw all at (differ-apart (g.F.Firing.net c.args.lead.now.net.now) (g.met.F.Firing.lawful c.args.lead.now.net.now) c.requires.runs.inputs c.args.period c.requires.period c.events._event c.events.invariant.none)) (rw all at c.events.invariant.stands) c.requires.some
