use Rattle.std.proofs.Common.{◌<◌, length, set, subst, ap, ◌∙◌, arith}
use Rattle.std.specs.Prelude.{slice_index_or}
use Rattle.std.proofs.lemmas.List.{get_or_default, get_or-set_same, length-set}
use Rattle.selftimed.specs.declared.actors.ActorState.{ActorState}
use Rattle.selftimed.specs.inside.Actors.{idle}
use Rattle.selftimed.specs.inside.EventQueues.{Announces}
use Rattle.selftimed.proofs.PortRows.{own-place, may-read, out-read, out-place}
use Rattle.selftimed.proofs.EventQueuesTellWhoRuns.{fewer-due}
use Rattle.selftimed.proofs.FiringsEnd.{due-actor, ends-late, ends-none, ends-step, ends-all, kept-then, kept-touches, lists-kept, stand-small, touched-fed}
use Rattle.selftimed.proofs.event.Event.end_all.Goals as goal

pub loop-actor-init : goal.loop-actor-init
loop-actor-init g c = ends-none (g.F.Firing.net c.args.self.now.net.now) c.args.self.now.moment c.args.actors.now c.args.tokens.now c.args.event_queue.now.ends c.args.event_queue.now.touched.items c.requires.stand c.requires.event_queue

pub index-requires : goal.index-requires
index-requires g c = omega (arith, own-place (g.F.Firing.net c.args.self.now.net.now) c.args.self.now.ports.now c.args.self.now.ported c.in-Some.actor (due-actor c.loop-actor.invariant c.in-Some.ensures.taken.2), c.args.self.now.ports.now.own.ok)

pub of-requires-clause-actor : goal.of-requires-clause-actor
of-requires-clause-actor g c = out-place (g.F.Firing.net c.args.self.now.net.now) c.args.self.now.ports.now c.args.self.now.ported c.in-Some.actor (due-actor c.loop-actor.invariant c.in-Some.ensures.taken.2)

pub invariant_of-due : goal.invariant_of-due
invariant_of-due g c =
    let actor : c.in-Some.actor < length (g.F.Firing.net c.args.self.now.net.now).times = due-actor c.loop-actor.invariant c.in-Some.ensures.taken.2 in record {
      is_actor = actor;
      rated = c.args.self.now.rated;
      owned = may-read (g.F.Firing.net c.args.self.now.net.now) c.args.self.now.ports.now c.args.self.now.ported c.in-Some.actor actor c.index.result.now c.index.ensures;
      listed = out-read (g.F.Firing.net c.args.self.now.net.now) c.args.self.now.ports.now c.args.self.now.ported c.in-Some.actor actor c.index.result.now c.of.result.now c.index.ensures c.of.ensures;
    }

pub bounds-actors-actor : goal.bounds-actors-actor
bounds-actors-actor g c = omega (arith, due-actor c.loop-actor.invariant c.in-Some.ensures.taken.2, c.loop-actor.invariant.stand.long)

pub end_firings-requires-clause-few : goal.end_firings-requires-clause-few
end_firings-requires-clause-few g c =
    let actor : c.in-Some.actor < length (g.F.Firing.net c.args.self.now.net.now).times = due-actor c.loop-actor.invariant c.in-Some.ensures.taken.2 in
    let place : c.in-Some.actor < length c.loop-actor.actors = omega (arith, c.loop-actor.invariant.stand.long) in
    rw (get_or_default c.loop-actor.actors c.in-Some.actor c.index-actors-actor.result idle place)
    (omega (arith, c.loop-actor.invariant.stand.counts c.in-Some.actor actor, c.loop-actor.invariant.stand.few c.in-Some.actor actor))

pub end_firings-requires-clause-small : goal.end_firings-requires-clause-small
end_firings-requires-clause-small g c =
    stand-small (g.F.Firing.net c.args.self.now.net.now) c.loop-actor.actors c.loop-actor.tokens (g.met.F.Firing.lawful c.args.self.now.net.now) c.loop-actor.invariant.stand

pub bounds-actors-actor-in-Some : goal.bounds-actors-actor-in-Some
bounds-actors-actor-in-Some g c = omega (arith, due-actor c.loop-actor.invariant c.in-Some.ensures.taken.2, c.loop-actor.invariant.stand.long, length-set c.loop-actor.actors c.in-Some.actor c.end_firings.new.state)

pub touch_itself-requires-clause-lists : goal.touch_itself-requires-clause-lists
touch_itself-requires-clause-lists g c =
    let place : c.in-Some.actor < length c.loop-actor.actors = omega (arith, due-actor c.loop-actor.invariant c.in-Some.ensures.taken.2, c.loop-actor.invariant.stand.long) in
    rw (c.announce.ensures.touched, c.in-Some.ensures.touched) (lists-kept (g.F.Firing.net c.args.self.now.net.now) c.loop-actor.actors c.loop-actor.event_queue.touched.items c.in-Some.actor c.end_firings.new.state place
    (c.end_firings.ensures.touched ∙ ap (λ (s : ActorState). s.touched) (get_or_default c.loop-actor.actors c.in-Some.actor c.index-actors-actor.result idle place)) c.loop-actor.invariant.lists)

pub loop-actor-smaller : goal.loop-actor-smaller
loop-actor-smaller g c =
    let place : c.in-Some.actor < length c.loop-actor.actors = omega (arith, due-actor c.loop-actor.invariant c.in-Some.ensures.taken.2, c.loop-actor.invariant.stand.long) in
    let here = get_or-set_same c.loop-actor.actors c.in-Some.actor c.end_firings.new.state c.index-actors-actor-in-Some.result place in
    let announced : Announces c.in-Some.actor c.end_firings.new.state.running c.pop_due.new.self.ends c.announce.new.self.ends =
    subst (λ (x : ActorState). Announces c.in-Some.actor x.running c.pop_due.new.self.ends c.announce.new.self.ends) here c.in_ok-announce.ensures.ends in
    rw (c.touch_targets.ensures.ends, c.touch_itself.ensures.ends) (fewer-due c.args.self.now.moment c.in-Some.ensures.taken.0 c.in-Some.actor c.end_firings.new.state.running c.loop-actor.event_queue.ends c.pop_due.new.self.ends c.announce.new.self.ends
    c.in-Some.ensures.taken.1 c.in-Some.ensures.taken.2 announced
    (ends-late c.args.self.now.moment (slice_index_or c.loop-actor.actors c.in-Some.actor c.index-actors-actor.result) c.end_firings.new.state c.end_firings.ensures.ended))

pub loop-actor-preserved : goal.loop-actor-preserved
loop-actor-preserved g c =
    let actor : c.in-Some.actor < length (g.F.Firing.net c.args.self.now.net.now).times = due-actor c.loop-actor.invariant c.in-Some.ensures.taken.2 in
    let place : c.in-Some.actor < length c.loop-actor.actors = omega (arith, c.loop-actor.invariant.stand.long) in
    let here = get_or-set_same c.loop-actor.actors c.in-Some.actor c.end_firings.new.state c.index-actors-actor-in-Some.result place in
    let announced : Announces c.in-Some.actor c.end_firings.new.state.running c.pop_due.new.self.ends c.announce.new.self.ends =
    subst (λ (x : ActorState). Announces c.in-Some.actor x.running c.pop_due.new.self.ends c.announce.new.self.ends) here c.in_ok-announce.ensures.ends in
    rw (c.touch_targets.ensures.ends, c.touch_itself.ensures.ends) (ends-step (g.F.Firing.net c.args.self.now.net.now) c.args.self.now.moment c.args.actors.now c.loop-actor.actors c.loop-actor.tokens c.end_firings.new.tokens c.in-Some.ensures.taken.0 c.in-Some.actor
    (slice_index_or c.loop-actor.actors c.in-Some.actor c.index-actors-actor.result) c.end_firings.new.state c.touch_targets.new.actors
    c.loop-actor.event_queue.ends c.pop_due.new.self.ends c.announce.new.self.ends c.loop-actor.event_queue.touched.items c.touch_targets.new.event_queue.touched.items
    (get_or_default c.loop-actor.actors c.in-Some.actor c.index-actors-actor.result idle place) actor c.loop-actor.invariant c.in-Some.ensures.taken.2 announced c.in_ok-touch_targets.ensures.lists
    c.end_firings.ensures.ended c.end_firings.ensures.touched c.end_firings.ensures.lacking
    (kept-then (set c.loop-actor.actors c.in-Some.actor c.end_firings.new.state) c.touch_itself.new.actors c.touch_targets.new.actors c.in_ok-touch_itself.ensures.touched.kept
    (kept-touches (g.F.Firing.net c.args.self.now.net.now) c.as_slice.result.now c.of.result.now c.touch_itself.new.actors c.touch_targets.new.actors c.in_ok-touch_targets.ensures.touched))
    c.end_firings.ensures.puts c.end_firings.ensures.long
    (rw c.as_slice.ensures at (touched-fed (g.F.Firing.net c.args.self.now.net.now) c.in-Some.actor c.index.result.now c.as_slice.result.now c.of.result.now (set c.loop-actor.actors c.in-Some.actor c.end_firings.new.state) c.touch_itself.new.actors c.touch_targets.new.actors
    (may-read (g.F.Firing.net c.args.self.now.net.now) c.args.self.now.ports.now c.args.self.now.ported c.in-Some.actor actor c.index.result.now c.index.ensures)
    (out-read (g.F.Firing.net c.args.self.now.net.now) c.args.self.now.ports.now c.args.self.now.ported c.in-Some.actor actor c.index.result.now c.of.result.now c.index.ensures c.of.ensures)
    c.in_ok-touch_itself.ensures.touched c.in_ok-touch_targets.ensures.touched)))

pub returns-clause-ended : goal.returns-clause-ended
returns-clause-ended g c =
    ends-all (g.F.Firing.net c.args.self.now.net.now) c.args.self.now.moment c.args.actors.now c.loop-actor.actors c.loop-actor.tokens c.loop-actor.event_queue.ends c.loop-actor.event_queue.touched.items c.loop-actor.invariant c.in_default.ensures.taken.1
