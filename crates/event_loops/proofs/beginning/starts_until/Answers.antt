use Rattle.std.proofs.Common.{◌≡◌, ◌∙◌, length, subst, sym, arith}
use Rattle.std.proofs.lemmas.List.{take_at}
use Rattle.selftimed.specs.declared.engine.Stage.TheVariants.{Fresh, Running}
use Rattle.selftimed.specs.Moves.{ComesNext}
use Rattle.loops.specs.StartRows.{AreStarts}
use Rattle.event_loops.proofs.LiveEnginesGoOn.{first-few, running-few, running-within}
use Rattle.event_loops.proofs.StartsAddUp.{has-before, has-fewer, has-next, starts-are}
use Rattle.event_loops.proofs.beginning.starts_until.Goals as goal

pub next_event-requires-clause-runs : goal.next_event-requires-clause-runs
next_event-requires-clause-runs g c = rw c.in_ok-engine.ensures.net (record { live = c.requires.live; inputs = c.requires.inputs })

pub next_event-requires-clause-few : goal.next_event-requires-clause-few
next_event-requires-clause-few g c =
    rw c.in_ok-engine.ensures.net (rw c.in_ok-engine.ensures.most (λ t next. first-few (g.F.Firing.net c.args.wired.now.net.now) (g.met.F.Firing.lawful c.args.wired.now.net.now) c.requires.inputs 4000000 c.in_ok-engine.engine.moment t c.args.event c.in_ok-engine.engine.stage c.in_ok-engine.ensures.stage next c.requires.few))

pub add_starts-requires-clause-before : goal.add_starts-requires-clause-before
add_starts-requires-clause-before g c =
    let next : ComesNext (g.F.Firing.net c.args.wired.now.net.now) Fresh c.in_ok-engine.engine.moment c.next_event.new.engine.moment = rw c.in_ok-engine.ensures.stage at (rw c.in_ok-engine.ensures.net at c.in_ok-next_event.ensures.next) in
    rw (c.next_event.ensures.net, c.in_ok-engine.ensures.net) (rw c.as_mut_slice.ensures.value
    (has-before (g.F.Firing.net c.args.wired.now.net.now) (g.met.F.Firing.lawful c.args.wired.now.net.now) c.requires.inputs Fresh c.in_ok-engine.engine.moment c.next_event.new.engine.moment c.in_ok-rows.rows.items c.in_ok-rows.ensures next))

pub events-init : goal.events-init
events-init g c =
    let net = g.F.Firing.net c.args.wired.now.net.now in
    let next : ComesNext net Fresh c.in_ok-engine.engine.moment c.next_event.new.engine.moment = rw c.in_ok-engine.ensures.stage at (rw c.in_ok-engine.ensures.net at c.in_ok-next_event.ensures.next) in
    let size : length c.add_starts.new.starts ≡ c.in_ok-rows.rows.len = omega (arith, c.add_starts.auto.starts, c.as_mut_slice.ensures.len) in
    let zero_here : c.next_event.new.engine.moment ≡ 0 = next in
    record {
      net = rw c.next_event.ensures.net c.in_ok-engine.ensures.net;
      most = c.next_event.ensures.most ∙ c.in_ok-engine.ensures.most;
      running = c.in_ok-next_event.ensures.running;
      starts = subst (AreStarts net c.next_event.new.engine.moment) (sym (take_at c.add_starts.new.starts _ c.in_ok-rows.rows.len size))
          (has-next net (g.met.F.Firing.lawful c.args.wired.now.net.now) c.requires.inputs Fresh c.in_ok-engine.engine.moment c.next_event.new.engine.moment c.in_ok-rows.rows.items c.add_starts.new.starts c.in_ok-rows.ensures next
          (rw c.as_mut_slice.ensures.value at (rw (c.next_event.ensures.net, c.in_ok-engine.ensures.net) at c.in_ok-add_starts.ensures)));
      within = omega arith;
    }

pub next_event-requires-in-events-clause-runs : goal.next_event-requires-in-events-clause-runs
next_event-requires-in-events-clause-runs g c = rw c.events.invariant.net (record { live = c.requires.live; inputs = c.requires.inputs })

pub next_event-requires-in-events-clause-few : goal.next_event-requires-in-events-clause-few
next_event-requires-in-events-clause-few g c =
    rw c.events.invariant.net (rw c.events.invariant.most (λ t next. running-few (g.F.Firing.net c.args.wired.now.net.now) (g.met.F.Firing.lawful c.args.wired.now.net.now) c.requires.inputs 4000000 c.events.engine.moment t c.args.event c.events.engine.stage c.events.invariant.running next c.requires.event (omega (arith, c.events-test.true, c.moment.ensures)) c.requires.few))

pub add_starts-requires-in-events-clause-before : goal.add_starts-requires-in-events-clause-before
add_starts-requires-in-events-clause-before g c =
    let next : ComesNext (g.F.Firing.net c.args.wired.now.net.now) Running c.events.engine.moment c.next_event-in-events.new.engine.moment = rw c.events.invariant.running at (rw c.events.invariant.net at c.in_ok-next_event-2.ensures.next) in
    rw (c.next_event-in-events.ensures.net, c.events.invariant.net) (rw c.as_mut_slice-in-events.ensures.value
    (has-before (g.F.Firing.net c.args.wired.now.net.now) (g.met.F.Firing.lawful c.args.wired.now.net.now) c.requires.inputs Running c.events.engine.moment c.next_event-in-events.new.engine.moment c.events.rows.items c.events.invariant.starts next))

pub add_starts-requires-in-events-clause-fewer : goal.add_starts-requires-in-events-clause-fewer
add_starts-requires-in-events-clause-fewer g c =
    let next : ComesNext (g.F.Firing.net c.args.wired.now.net.now) Running c.events.engine.moment c.next_event-in-events.new.engine.moment = rw c.events.invariant.running at (rw c.events.invariant.net at c.in_ok-next_event-2.ensures.next) in
    rw (c.next_event-in-events.ensures.net, c.events.invariant.net) (rw c.as_mut_slice-in-events.ensures.value
    (has-fewer (g.F.Firing.net c.args.wired.now.net.now) (g.met.F.Firing.lawful c.args.wired.now.net.now) c.requires.inputs Running c.events.engine.moment c.next_event-in-events.new.engine.moment c.events.rows.items c.events.invariant.starts next))

pub events-preserved : goal.events-preserved
events-preserved g c =
    let net = g.F.Firing.net c.args.wired.now.net.now in
    let next : ComesNext net Running c.events.engine.moment c.next_event-in-events.new.engine.moment = rw c.events.invariant.running at (rw c.events.invariant.net at c.in_ok-next_event-2.ensures.next) in
    let on = running-within net (g.met.F.Firing.lawful c.args.wired.now.net.now) c.requires.inputs c.events.engine.moment c.next_event-in-events.new.engine.moment c.args.event c.events.engine.stage c.events.invariant.running (rw c.events.invariant.net at c.in_ok-next_event-2.ensures.next) c.requires.event (omega (arith, c.events-test.true, c.moment.ensures)) in
    let size : length c.add_starts-in-events.new.starts ≡ c.events.rows.len = omega (arith, c.add_starts-in-events.auto.starts, c.as_mut_slice-in-events.ensures.len) in
    record {
      net = rw c.next_event-in-events.ensures.net c.events.invariant.net;
      most = c.next_event-in-events.ensures.most ∙ c.events.invariant.most;
      running = c.in_ok-next_event-2.ensures.running;
      starts = subst (AreStarts net c.next_event-in-events.new.engine.moment) (sym (take_at c.add_starts-in-events.new.starts _ c.events.rows.len size))
          (has-next net (g.met.F.Firing.lawful c.args.wired.now.net.now) c.requires.inputs Running c.events.engine.moment c.next_event-in-events.new.engine.moment c.events.rows.items c.add_starts-in-events.new.starts c.events.invariant.starts next
          (rw c.as_mut_slice-in-events.ensures.value at (rw (c.next_event-in-events.ensures.net, c.events.invariant.net) at c.in_ok-add_starts-2.ensures)));
      within = on.1;
    }

pub returns : goal.returns
returns g c =
    let same : c.events.engine.moment ≡ c.args.event = omega (arith, c.events-test.false, c.moment.ensures, c.events.invariant.within) in
    starts-are (g.F.Firing.net c.args.wired.now.net.now) (g.met.F.Firing.lawful c.args.wired.now.net.now) c.requires.inputs c.args.event c.events.rows.items (rw same at c.events.invariant.starts)
