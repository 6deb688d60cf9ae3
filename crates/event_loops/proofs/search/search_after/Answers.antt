use Rattle.std.proofs.Common.{◌∙◌, ◌≡◌, ◌+◌, refl, inl, ap, arith}
use Rattle.sd_base.specs.SelfTimed.{events_by, starts_by}
use Rattle.selftimed.specs.Moves.{IsNextEvent}
use Rattle.loops.proofs.RanksRise.{rank-first, rank-after}
use Rattle.event_loops.proofs.KeptShapesFindPairs.{kept-on, few-before, few-first, many-next}
use Rattle.selftimed.specs.declared.engine.Stage.TheVariants.{Running}
use Rattle.event_loops.specs.inside.Tracing.{IsTraceBefore}
use Rattle.event_loops.proofs.TracesFollowEvents.{allowed-next}
use Rattle.event_loops.proofs.FingerprintsTellShapes.{first-fingerprints, more-fingerprints}
use Rattle.event_loops.proofs.search.search_after.Goals as goal

pub loop-event-init : goal.loop-event-init
loop-event-init g c = record {
  net = refl;
  most = refl;
  running = c.requires.running;
  event = inl c.requires.first;
  number = ap (events_by (g.F.Firing.net c.args.engine.now.net.now)) c.requires.first ∙ rank-first (g.F.Firing.net c.args.engine.now.net.now);
  few = few-first (g.F.Firing.net c.args.engine.now.net.now) (g.met.F.Firing.lawful c.args.engine.now.net.now) c.requires.runs.inputs c.args.engine.now.moment c.requires.first;
  watch = c.requires.watch;
  fingerprints = first-fingerprints (g.F.Firing.net c.args.engine.now.net.now) c.args.engine.now.moment c.args.fingerprints.now.items c.requires.first;
  trace = c.requires.trace;
  allowed = c.requires.allowed;
}

pub add-requires-clause-inputs : goal.add-requires-clause-inputs
add-requires-clause-inputs g c = rw (c.go_on.ensures.net, c.loop-event.invariant.net) c.requires.runs.inputs

pub add-requires-clause-before : goal.add-requires-clause-before
add-requires-clause-before g c =
    let goes = rw c.loop-event.invariant.running at (rw c.loop-event.invariant.net at (rw c.if-not-branch.false at c.in_ok-go_on.ensures.goes)) in
    let here : c.starts.result ≡ starts_by (g.F.Firing.net c.args.engine.now.net.now) c.loop-event.engine.moment = rw c.loop-event.invariant.net at c.starts.ensures in
    let before : IsTraceBefore (g.F.Firing.net c.args.engine.now.net.now) c.go_on.new.engine.moment c.loop-event.trace.moments.items c.loop-event.trace.starts.items =
    (Running, c.loop-event.engine.moment, c.loop-event.invariant.trace (omega (arith, here, c.if-starts-gt-STARTS.false)), goes.1) in
    rw (c.go_on.ensures.net, c.loop-event.invariant.net) before

pub go_on-requires-clause-runs : goal.go_on-requires-clause-runs
go_on-requires-clause-runs g c = rw c.loop-event.invariant.net c.requires.runs

pub returns-then-not-branch-clause-refused : goal.returns-then-not-branch-clause-refused
returns-then-not-branch-clause-refused g c =
    let goes = rw c.loop-event.invariant.running at (rw (c.loop-event.invariant.most, c.requires.most) at (rw c.loop-event.invariant.net at (rw c.if-not-branch.true at c.in_ok-go_on.ensures.goes))) in
    let here : c.starts.result ≡ starts_by (g.F.Firing.net c.args.engine.now.net.now) c.loop-event.engine.moment = rw c.loop-event.invariant.net at c.starts.ensures in
    many-next (g.F.Firing.net c.args.engine.now.net.now) (g.met.F.Firing.lawful c.args.engine.now.net.now) c.requires.runs.inputs c.args.states c.loop-event.engine.moment goes.0 goes.1 (omega (arith, c.loop-event.invariant.number, c.loop-event-test.true)) (omega (arith, here, c.if-starts-gt-STARTS.false)) (omega (arith, goes.2))

pub loop-event-preserved : goal.loop-event-preserved
loop-event-preserved g c =
    let goes = rw c.loop-event.invariant.running at (rw c.loop-event.invariant.net at (rw c.if-not-branch.false at c.in_ok-go_on.ensures.goes)) in
    let next : IsNextEvent (g.F.Firing.net c.args.engine.now.net.now) c.loop-event.engine.moment c.go_on.new.engine.moment = goes.1 in
    let here : c.starts.result ≡ starts_by (g.F.Firing.net c.args.engine.now.net.now) c.loop-event.engine.moment = rw c.loop-event.invariant.net at c.starts.ensures in
    record {
      net = c.go_on.ensures.net ∙ c.loop-event.invariant.net;
      most = c.go_on.ensures.most ∙ c.loop-event.invariant.most;
      running = goes.0;
      event = next.event;
      number = rank-after (g.F.Firing.net c.args.engine.now.net.now) (g.met.F.Firing.lawful c.args.engine.now.net.now) c.requires.runs.inputs c.loop-event.engine.moment c.go_on.new.engine.moment next ∙ ap (λ n. n + 1) c.loop-event.invariant.number;
      few = few-before (g.F.Firing.net c.args.engine.now.net.now) (g.met.F.Firing.lawful c.args.engine.now.net.now) c.requires.runs.inputs c.loop-event.engine.moment c.go_on.new.engine.moment (omega (arith, here, c.if-starts-gt-STARTS.false)) next;
      watch = rw (c.go_on.ensures.net, c.loop-event.invariant.net) at c.in_ok-renew.ensures;
      fingerprints = rw c.in_ok-push.ensures.items (more-fingerprints (g.F.Firing.net c.args.engine.now.net.now) c.loop-event.engine.moment c.go_on.new.engine.moment c.upper_half.result c.loop-event.fingerprints.items
          (rw c.loop-event.invariant.net at c.upper_half.ensures) next c.loop-event.invariant.fingerprints);
      trace = rw (c.go_on.ensures.net, c.loop-event.invariant.net) at c.in_ok-add.ensures.few;
      allowed = allowed-next (g.F.Firing.net c.args.engine.now.net.now) c.args.states c.go_on.new.engine.moment c.loop-event.trace.moments.items c.add.new.self.moments.items c.loop-event.trace.starts.items c.add.new.self.starts.items
          c.loop-event.invariant.allowed (rw (c.go_on.ensures.net, c.loop-event.invariant.net) at c.in_ok-add.ensures.few) (rw (c.go_on.ensures.net, c.loop-event.invariant.net) at c.in_ok-add.ensures.many) next.event
          (omega (arith, rank-after (g.F.Firing.net c.args.engine.now.net.now) (g.met.F.Firing.lawful c.args.engine.now.net.now) c.requires.runs.inputs c.loop-event.engine.moment c.go_on.new.engine.moment next, c.loop-event.invariant.number, c.loop-event-test.true));
    }

pub returns-in-Some-clause-traced : goal.returns-in-Some-clause-traced
returns-in-Some-clause-traced g c =
    let goes = rw c.loop-event.invariant.running at (rw c.loop-event.invariant.net at (rw c.if-not-branch.false at c.in_ok-go_on.ensures.goes)) in
    let next : IsNextEvent (g.F.Firing.net c.args.engine.now.net.now) c.loop-event.engine.moment c.go_on.new.engine.moment = goes.1 in
    allowed-next (g.F.Firing.net c.args.engine.now.net.now) c.args.states c.go_on.new.engine.moment c.loop-event.trace.moments.items c.add.new.self.moments.items c.loop-event.trace.starts.items c.add.new.self.starts.items
    c.loop-event.invariant.allowed (rw (c.go_on.ensures.net, c.loop-event.invariant.net) at c.in_ok-add.ensures.few) (rw (c.go_on.ensures.net, c.loop-event.invariant.net) at c.in_ok-add.ensures.many) next.event
    (omega (arith, rank-after (g.F.Firing.net c.args.engine.now.net.now) (g.met.F.Firing.lawful c.args.engine.now.net.now) c.requires.runs.inputs c.loop-event.engine.moment c.go_on.new.engine.moment next, c.loop-event.invariant.number, c.loop-event-test.true))

pub renew-requires-clause-stands : goal.renew-requires-clause-stands
renew-requires-clause-stands g c =
    let goes = rw c.loop-event.invariant.running at (rw c.loop-event.invariant.net at (rw c.if-not-branch.false at c.in_ok-go_on.ensures.goes)) in
    let next : IsNextEvent (g.F.Firing.net c.args.engine.now.net.now) c.loop-event.engine.moment c.go_on.new.engine.moment = goes.1 in
    rw (c.go_on.ensures.net, c.loop-event.invariant.net) (record { running = goes.0; event = next.event })

pub pair_with-requires-clause-stands : goal.pair_with-requires-clause-stands
pair_with-requires-clause-stands g c =
    let goes = rw c.loop-event.invariant.running at (rw c.loop-event.invariant.net at (rw c.if-not-branch.false at c.in_ok-go_on.ensures.goes)) in
    let next : IsNextEvent (g.F.Firing.net c.args.engine.now.net.now) c.loop-event.engine.moment c.go_on.new.engine.moment = goes.1 in
    rw (c.go_on.ensures.net, c.loop-event.invariant.net) (record { running = goes.0; event = next.event })

pub pair_with-requires-clause-watch : goal.pair_with-requires-clause-watch
pair_with-requires-clause-watch g c =
    let goes = rw c.loop-event.invariant.running at (rw c.loop-event.invariant.net at (rw c.if-not-branch.false at c.in_ok-go_on.ensures.goes)) in
    let next : IsNextEvent (g.F.Firing.net c.args.engine.now.net.now) c.loop-event.engine.moment c.go_on.new.engine.moment = goes.1 in
    rw (c.go_on.ensures.net, c.loop-event.invariant.net) (
      kept-on (g.F.Firing.net c.args.engine.now.net.now) c.loop-event.engine.moment c.go_on.new.engine.moment c.loop-event.watch.last next c.loop-event.invariant.watch.0,
      kept-on (g.F.Firing.net c.args.engine.now.net.now) c.loop-event.engine.moment c.go_on.new.engine.moment c.loop-event.watch.before next c.loop-event.invariant.watch.1,
    )
