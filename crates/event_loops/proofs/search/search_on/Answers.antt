use Rattle.std.proofs.Common.{◌∙◌, ◌≡◌, ◌≢◌, ◌+◌, ◌<◌, refl, arith}
use Rattle.std.proofs.lemmas.Bool.{false≢true}
use Rattle.sd_base.specs.SelfTimed.{shape_at, starts_by}
use Rattle.selftimed.specs.Moves.{IsNextEvent}
use Rattle.loops.proofs.RanksRise.{starts-rise}
use Rattle.event_loops.proofs.KeptShapesFindPairs.{none-yet, none-more, first-since, none-spent, none-many}
use Rattle.event_loops.proofs.search.search_on.Goals as goal

pub go_on-requires-clause-runs : goal.go_on-requires-clause-runs
go_on-requires-clause-runs g c = rw c.events.invariant.net c.requires.runs

pub events-init : goal.events-init
events-init g c = record {
  net = refl;
  most = refl;
  running = c.requires.running;
  ahead = omega (arith, c.requires.here);
  event = rw c.requires.here c.requires.checkpoint.event;
  none = rw c.requires.here (none-yet (g.F.Firing.net c.args.engine.now.net.now) c.args.checkpoint.now.moment);
}

pub returns-then-not-branch : goal.returns-then-not-branch
returns-then-not-branch g c =
    let goes = rw c.events.invariant.running at (rw c.events.invariant.most at (rw c.events.invariant.net at (rw c.if-not-branch.true at c.in_ok-go_on.ensures.goes))) in
    record {
      net = c.go_on.ensures.net ∙ c.events.invariant.net;
      found = none-spent (g.F.Firing.net c.args.engine.now.net.now) (g.met.F.Firing.lawful c.args.engine.now.net.now) c.requires.runs.inputs c.args.checkpoint.now.moment c.events.engine.moment goes.0 c.args.engine.now.most c.events.invariant.none goes.1 goes.2;
    }

pub returns-then-stands_at : goal.returns-then-stands_at
returns-then-stands_at g c =
    let goes = rw c.events.invariant.running at (rw c.events.invariant.net at (rw c.if-not-branch.false at c.in_ok-go_on.ensures.goes)) in
    let next : IsNextEvent (g.F.Firing.net c.args.engine.now.net.now) c.events.engine.moment c.go_on.new.engine.moment = goes.1 in
    let same : shape_at (g.F.Firing.net c.args.engine.now.net.now) c.go_on.new.engine.moment ≡ shape_at (g.F.Firing.net c.args.engine.now.net.now) c.args.checkpoint.now.moment =
    rw c.events.invariant.net at (rw c.go_on.ensures.net at (c.if-stands_at.ensures.0 refl)) in
    record {
      net = c.go_on.ensures.net ∙ c.events.invariant.net;
      found = rw c.moment-then-stands_at.ensures (record {
        order = omega (arith, next.later, c.events.invariant.ahead);
        start = c.requires.checkpoint.event;
        end = next.event;
        same = same;
        first = λ u event after before. first-since (g.F.Firing.net c.args.engine.now.net.now) (g.met.F.Firing.lawful c.args.engine.now.net.now) c.requires.runs.inputs c.args.checkpoint.now.moment c.events.engine.moment c.go_on.new.engine.moment u c.events.invariant.none next event after before;
      });
    }

pub events-preserved : goal.events-preserved
events-preserved g c =
    let goes = rw c.events.invariant.running at (rw c.events.invariant.net at (rw c.if-not-branch.false at c.in_ok-go_on.ensures.goes)) in
    let next : IsNextEvent (g.F.Firing.net c.args.engine.now.net.now) c.events.engine.moment c.go_on.new.engine.moment = goes.1 in
    let other : shape_at (g.F.Firing.net c.args.engine.now.net.now) c.go_on.new.engine.moment ≢ shape_at (g.F.Firing.net c.args.engine.now.net.now) c.args.checkpoint.now.moment =
    λ same. false≢true (c.if-stands_at.ensures.1 (rw (c.go_on.ensures.net, c.events.invariant.net) same)) in
    record {
      net = c.go_on.ensures.net ∙ c.events.invariant.net;
      most = c.go_on.ensures.most ∙ c.events.invariant.most;
      running = goes.0;
      ahead = omega (arith, next.later, c.events.invariant.ahead);
      event = next.event;
      none = none-more (g.F.Firing.net c.args.engine.now.net.now) (g.met.F.Firing.lawful c.args.engine.now.net.now) c.requires.runs.inputs c.args.checkpoint.now.moment c.events.engine.moment c.go_on.new.engine.moment c.events.invariant.none next other;
    }

pub overflow_sub-starts : goal.overflow_sub-starts
overflow_sub-starts g c =
    let goes = rw c.events.invariant.running at (rw c.events.invariant.net at (rw c.if-not-branch.false at c.in_ok-go_on.ensures.goes)) in
    let next : IsNextEvent (g.F.Firing.net c.args.engine.now.net.now) c.events.engine.moment c.go_on.new.engine.moment = goes.1 in
    let here : c.starts.result ≡ starts_by (g.F.Firing.net c.args.engine.now.net.now) c.go_on.new.engine.moment = rw c.events.invariant.net at (rw c.go_on.ensures.net at c.starts.ensures) in
    omega (arith, here, c.requires.checkpoint.starts, starts-rise (g.F.Firing.net c.args.engine.now.net.now) (g.met.F.Firing.lawful c.args.engine.now.net.now) c.requires.runs.inputs c.args.checkpoint.now.moment c.go_on.new.engine.moment (omega (arith, next.later, c.events.invariant.ahead)))

pub returns-then-starts-checkpoint-gt-STARTS : goal.returns-then-starts-checkpoint-gt-STARTS
returns-then-starts-checkpoint-gt-STARTS g c =
    let goes = rw c.events.invariant.running at (rw c.events.invariant.net at (rw c.if-not-branch.false at c.in_ok-go_on.ensures.goes)) in
    let next : IsNextEvent (g.F.Firing.net c.args.engine.now.net.now) c.events.engine.moment c.go_on.new.engine.moment = goes.1 in
    let other : shape_at (g.F.Firing.net c.args.engine.now.net.now) c.go_on.new.engine.moment ≢ shape_at (g.F.Firing.net c.args.engine.now.net.now) c.args.checkpoint.now.moment =
    λ same. false≢true (c.if-stands_at.ensures.1 (rw (c.go_on.ensures.net, c.events.invariant.net) same)) in
    let here : c.starts.result ≡ starts_by (g.F.Firing.net c.args.engine.now.net.now) c.go_on.new.engine.moment = rw c.events.invariant.net at (rw c.go_on.ensures.net at c.starts.ensures) in
    let many : starts_by (g.F.Firing.net c.args.engine.now.net.now) c.args.checkpoint.now.moment + 4000000 < starts_by (g.F.Firing.net c.args.engine.now.net.now) c.go_on.new.engine.moment = omega (arith, here, c.requires.checkpoint.starts, c.if-starts-checkpoint-gt-STARTS.true) in
    record {
      net = c.go_on.ensures.net ∙ c.events.invariant.net;
      found = none-many (g.F.Firing.net c.args.engine.now.net.now) (g.met.F.Firing.lawful c.args.engine.now.net.now) c.requires.runs.inputs c.args.checkpoint.now.moment c.go_on.new.engine.moment c.args.engine.now.most
          (none-more (g.F.Firing.net c.args.engine.now.net.now) (g.met.F.Firing.lawful c.args.engine.now.net.now) c.requires.runs.inputs c.args.checkpoint.now.moment c.events.engine.moment c.go_on.new.engine.moment c.events.invariant.none next other) many;
    }
