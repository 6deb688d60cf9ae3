use Rattle.std.proofs.Common.{◌≡◌, ◌-◌, ◌<◌, true, false, [], ◌∷◌, ◌++◌, length, inl, inr, subst, sym, refl, ap, ◌∙◌, arith}
use Rattle.std.specs.Prelude.{slice_index_or}
use Rattle.std.proofs.lemmas.List.{get_or_default, get_or-set_same, length_push, nil_from_length}
use Rattle.selftimed.specs.declared.actors.ActorState.{ActorState}
use Rattle.selftimed.specs.inside.Actors.{idle, running_in, touched_in, StartsOne}
use Rattle.selftimed.specs.inside.EventQueues.{Announces}
use Rattle.selftimed.specs.inside.Starts.{Overfills}
use Rattle.selftimed.proofs.EventQueuesTellWhoRuns.{busy-from}
use Rattle.selftimed.proofs.PortRows.{may-read, into-read}
use Rattle.selftimed.proofs.StartersAreListed.{none-started, started-more}
use Rattle.selftimed.proofs.ActorsStartAllTheyCan.{StartsSoFar, actor, place, room-fits, starts-done, starts-more, starts-none, starts-over, starts-past}
use Rattle.selftimed.proofs.event.Event.start_all.Goals as goal

pub invariant_of-turn : goal.invariant_of-turn
invariant_of-turn g c =
    let inv : StartsSoFar (g.F.Firing.net c.args.self.now.net.now) c.args.self.now.moment c.args.actors.now c.loop-actor.actors c.loop-actor.tokens c.loop-actor.all c.args.self.now.most c.loop-actor.event_queue.ends (c.pop.new.self.items ++ c.in-Some.actor ∷ []) =
    subst (StartsSoFar (g.F.Firing.net c.args.self.now.net.now) c.args.self.now.moment c.args.actors.now c.loop-actor.actors c.loop-actor.tokens c.loop-actor.all c.args.self.now.most c.loop-actor.event_queue.ends) c.in-Some.ensures.items c.loop-actor.invariant.so_far in
    let inside : c.in-Some.actor < length (g.F.Firing.net c.args.self.now.net.now).times = actor (g.F.Firing.net c.args.self.now.net.now) c.args.self.now.moment c.args.actors.now c.loop-actor.actors c.loop-actor.tokens c.loop-actor.all c.args.self.now.most c.in-Some.actor c.loop-actor.event_queue.ends c.pop.new.self.items c.args.self.now.few inv in record {
      is_actor = inside;
      rated = c.args.self.now.rated;
      owned = may-read (g.F.Firing.net c.args.self.now.net.now) c.args.self.now.ports.now c.args.self.now.ported c.in-Some.actor inside c.index.result.now c.index.ensures;
      listed = into-read (g.F.Firing.net c.args.self.now.net.now) c.args.self.now.ports.now c.args.self.now.ported c.in-Some.actor inside c.index.result.now c.of.result.now c.index.ensures c.of.ensures;
      soon = c.requires.soon;
    }

pub start_one-requires-clause-few : goal.start_one-requires-clause-few
start_one-requires-clause-few g c =
    let inv : StartsSoFar (g.F.Firing.net c.args.self.now.net.now) c.args.self.now.moment c.args.actors.now c.loop-actor.actors c.loop-actor.tokens c.loop-actor.all c.args.self.now.most c.loop-actor.event_queue.ends (c.pop.new.self.items ++ c.in-Some.actor ∷ []) =
    subst (StartsSoFar (g.F.Firing.net c.args.self.now.net.now) c.args.self.now.moment c.args.actors.now c.loop-actor.actors c.loop-actor.tokens c.loop-actor.all c.args.self.now.most c.loop-actor.event_queue.ends) c.in-Some.ensures.items c.loop-actor.invariant.so_far in
    let place : c.in-Some.actor < length c.loop-actor.actors = omega (arith, actor (g.F.Firing.net c.args.self.now.net.now) c.args.self.now.moment c.args.actors.now c.loop-actor.actors c.loop-actor.tokens c.loop-actor.all c.args.self.now.most c.in-Some.actor c.loop-actor.event_queue.ends c.pop.new.self.items c.args.self.now.few inv, c.loop-actor.invariant.so_far.stand.long) in
    rw (get_or_default c.loop-actor.actors c.in-Some.actor c.index-actors-actor-in-Some-2.result idle place) (room-fits (g.F.Firing.net c.args.self.now.net.now) c.args.self.now.moment c.args.actors.now c.loop-actor.actors c.loop-actor.tokens c.loop-actor.all c.args.self.now.most c.in-Some.actor c.loop-actor.event_queue.ends c.pop.new.self.items c.args.self.now.few inv)

pub start_one-requires-clause-runs : goal.start_one-requires-clause-runs
start_one-requires-clause-runs g c =
    let inv : StartsSoFar (g.F.Firing.net c.args.self.now.net.now) c.args.self.now.moment c.args.actors.now c.loop-actor.actors c.loop-actor.tokens c.loop-actor.all c.args.self.now.most c.loop-actor.event_queue.ends (c.pop.new.self.items ++ c.in-Some.actor ∷ []) =
    subst (StartsSoFar (g.F.Firing.net c.args.self.now.net.now) c.args.self.now.moment c.args.actors.now c.loop-actor.actors c.loop-actor.tokens c.loop-actor.all c.args.self.now.most c.loop-actor.event_queue.ends) c.in-Some.ensures.items c.loop-actor.invariant.so_far in
    let inside : c.in-Some.actor < length (g.F.Firing.net c.args.self.now.net.now).times = actor (g.F.Firing.net c.args.self.now.net.now) c.args.self.now.moment c.args.actors.now c.loop-actor.actors c.loop-actor.tokens c.loop-actor.all c.args.self.now.most c.in-Some.actor c.loop-actor.event_queue.ends c.pop.new.self.items c.args.self.now.few inv in
    let place : c.in-Some.actor < length c.loop-actor.actors = omega (arith, c.loop-actor.invariant.so_far.stand.long) in
    rw (get_or_default c.loop-actor.actors c.in-Some.actor c.index-actors-actor-in-Some-2.result idle place) (omega (arith, c.loop-actor.invariant.so_far.stand.counts c.in-Some.actor inside))

pub returns-in-None-clause-started : goal.returns-in-None-clause-started
returns-in-None-clause-started g c =
    let inv : StartsSoFar (g.F.Firing.net c.args.self.now.net.now) c.args.self.now.moment c.args.actors.now c.loop-actor.actors c.loop-actor.tokens c.loop-actor.all c.args.self.now.most c.loop-actor.event_queue.ends (c.pop.new.self.items ++ c.in-Some.actor ∷ []) =
    subst (StartsSoFar (g.F.Firing.net c.args.self.now.net.now) c.args.self.now.moment c.args.actors.now c.loop-actor.actors c.loop-actor.tokens c.loop-actor.all c.args.self.now.most c.loop-actor.event_queue.ends) c.in-Some.ensures.items c.loop-actor.invariant.so_far in
    let place : c.in-Some.actor < length c.loop-actor.actors = omega (arith, actor (g.F.Firing.net c.args.self.now.net.now) c.args.self.now.moment c.args.actors.now c.loop-actor.actors c.loop-actor.tokens c.loop-actor.all c.args.self.now.most c.in-Some.actor c.loop-actor.event_queue.ends c.pop.new.self.items c.args.self.now.few inv, c.loop-actor.invariant.so_far.stand.long) in
    let was = get_or_default c.loop-actor.actors c.in-Some.actor c.index-actors-actor-in-Some-2.result idle place in
    starts-over (g.F.Firing.net c.args.self.now.net.now) c.args.self.now.moment c.args.actors.now c.loop-actor.actors c.loop-actor.tokens c.loop-actor.all c.args.self.now.most c.in-Some.actor c.loop-actor.event_queue.ends c.pop.new.self.items c.args.self.now.few inv
    (subst (λ (x : ActorState). Overfills (g.F.Firing.net c.args.self.now.net.now) c.loop-actor.tokens c.in-Some.actor x.started (c.args.self.now.most - c.loop-actor.all)) was (rw c.in-None.is at c.in_ok-firings.ensures.starts))

pub loop-actor-preserved-in-Continue-branch-4 : goal.loop-actor-preserved-in-Continue-branch-4
loop-actor-preserved-in-Continue-branch-4 g c =
    let inv : StartsSoFar (g.F.Firing.net c.args.self.now.net.now) c.args.self.now.moment c.args.actors.now c.loop-actor.actors c.loop-actor.tokens c.loop-actor.all c.args.self.now.most c.loop-actor.event_queue.ends (c.pop.new.self.items ++ c.in-Some.actor ∷ []) =
    subst (StartsSoFar (g.F.Firing.net c.args.self.now.net.now) c.args.self.now.moment c.args.actors.now c.loop-actor.actors c.loop-actor.tokens c.loop-actor.all c.args.self.now.most c.loop-actor.event_queue.ends) c.in-Some.ensures.items c.loop-actor.invariant.so_far in
    let place : c.in-Some.actor < length c.loop-actor.actors = omega (arith, actor (g.F.Firing.net c.args.self.now.net.now) c.args.self.now.moment c.args.actors.now c.loop-actor.actors c.loop-actor.tokens c.loop-actor.all c.args.self.now.most c.in-Some.actor c.loop-actor.event_queue.ends c.pop.new.self.items c.args.self.now.few inv, c.loop-actor.invariant.so_far.stand.long) in
    let was = get_or_default c.loop-actor.actors c.in-Some.actor c.index-actors-actor-in-Some-2.result idle place in
    let on : touched_in c.loop-actor.actors c.in-Some.actor ≡ true = sym (ap (λ (x : ActorState). x.touched) (get_or_default c.loop-actor.actors c.in-Some.actor c.index-actors-actor.result idle place)) ∙ c.if-not-actors-actor.false in
    let done = rw c.in-Some-2.is at c.in_ok-firings.ensures.starts in
    let one : StartsOne (g.F.Firing.net c.args.self.now.net.now) c.in-Some.actor c.args.self.now.moment c.in-Some-2.firings c.loop-actor.tokens c.start_one.new.tokens (slice_index_or c.loop-actor.actors c.in-Some.actor idle) c.start_one.new.state =
    subst (λ (x : ActorState). StartsOne (g.F.Firing.net c.args.self.now.net.now) c.in-Some.actor c.args.self.now.moment c.in-Some-2.firings c.loop-actor.tokens c.start_one.new.tokens x c.start_one.new.state) was done.1 in
    let here = get_or-set_same c.loop-actor.actors c.in-Some.actor c.start_one.new.state c.index-actors-actor-then-was_idle.result place in
    let announced : Announces c.in-Some.actor c.start_one.new.state.running c.loop-actor.event_queue.ends c.announce.new.self.ends =
    subst (λ (x : ActorState). Announces c.in-Some.actor x.running c.loop-actor.event_queue.ends c.announce.new.self.ends) here (rw c.note_starts.ensures.ends at c.in_ok-announce.ensures.ends) in record {
      starters = rw c.announce.ensures.starters (started-more (g.F.Firing.net c.args.self.now.net.now) c.args.actors.now c.loop-actor.actors c.in-Some.actor c.in-Some-2.firings c.start_one.new.state c.loop-actor.event_queue.starters.items c.loop-actor.invariant.starters
          (actor (g.F.Firing.net c.args.self.now.net.now) c.args.self.now.moment c.args.actors.now c.loop-actor.actors c.loop-actor.tokens c.loop-actor.all c.args.self.now.most c.in-Some.actor c.loop-actor.event_queue.ends c.pop.new.self.items c.args.self.now.few inv)
          place one.started (c.loop-actor.invariant.so_far.started c.in-Some.actor on) on one.calm c.note_starts.new.self.starters.items c.in_ok-note_starts-in-Some-2.ensures.starters);
      so_far = rw (c.announce.ensures.touched, c.note_starts.ensures.touched) (starts-more (g.F.Firing.net c.args.self.now.net.now) c.args.self.now.moment c.args.actors.now c.loop-actor.actors c.loop-actor.tokens c.loop-actor.all c.args.self.now.most c.in-Some.actor c.loop-actor.event_queue.ends c.pop.new.self.items c.args.self.now.few inv on
          c.start_one.new.tokens c.start_one.new.state c.in-Some-2.firings done.0 one c.start_one.ensures.long c.announce.new.self.ends (inl announced));
    }

pub loop-actor-preserved : goal.loop-actor-preserved
loop-actor-preserved g c =
    let inv : StartsSoFar (g.F.Firing.net c.args.self.now.net.now) c.args.self.now.moment c.args.actors.now c.loop-actor.actors c.loop-actor.tokens c.loop-actor.all c.args.self.now.most c.loop-actor.event_queue.ends (c.pop.new.self.items ++ c.in-Some.actor ∷ []) =
    subst (StartsSoFar (g.F.Firing.net c.args.self.now.net.now) c.args.self.now.moment c.args.actors.now c.loop-actor.actors c.loop-actor.tokens c.loop-actor.all c.args.self.now.most c.loop-actor.event_queue.ends) c.in-Some.ensures.items c.loop-actor.invariant.so_far in
    let place : c.in-Some.actor < length c.loop-actor.actors = omega (arith, actor (g.F.Firing.net c.args.self.now.net.now) c.args.self.now.moment c.args.actors.now c.loop-actor.actors c.loop-actor.tokens c.loop-actor.all c.args.self.now.most c.in-Some.actor c.loop-actor.event_queue.ends c.pop.new.self.items c.args.self.now.few inv, c.loop-actor.invariant.so_far.stand.long) in
    let was = get_or_default c.loop-actor.actors c.in-Some.actor c.index-actors-actor-in-Some-2.result idle place in
    let on : touched_in c.loop-actor.actors c.in-Some.actor ≡ true = sym (ap (λ (x : ActorState). x.touched) (get_or_default c.loop-actor.actors c.in-Some.actor c.index-actors-actor.result idle place)) ∙ c.if-not-actors-actor.false in
    let done = rw c.in-Some-2.is at c.in_ok-firings.ensures.starts in
    let one : StartsOne (g.F.Firing.net c.args.self.now.net.now) c.in-Some.actor c.args.self.now.moment c.in-Some-2.firings c.loop-actor.tokens c.start_one.new.tokens (slice_index_or c.loop-actor.actors c.in-Some.actor idle) c.start_one.new.state =
    subst (λ (x : ActorState). StartsOne (g.F.Firing.net c.args.self.now.net.now) c.in-Some.actor c.args.self.now.moment c.in-Some-2.firings c.loop-actor.tokens c.start_one.new.tokens x c.start_one.new.state) was done.1 in
    let busy : 0 < length (running_in c.loop-actor.actors c.in-Some.actor) = subst (λ (x : ActorState). 0 < length x.running)
    (get_or_default c.loop-actor.actors c.in-Some.actor c.index-actors-actor-in-Some.result idle place) (busy-from (slice_index_or c.loop-actor.actors c.in-Some.actor c.index-actors-actor-in-Some.result).running c.first.result c.first.ensures c.if-was_idle.ensures) in record {
      starters = started-more (g.F.Firing.net c.args.self.now.net.now) c.args.actors.now c.loop-actor.actors c.in-Some.actor c.in-Some-2.firings c.start_one.new.state c.loop-actor.event_queue.starters.items c.loop-actor.invariant.starters
          (actor (g.F.Firing.net c.args.self.now.net.now) c.args.self.now.moment c.args.actors.now c.loop-actor.actors c.loop-actor.tokens c.loop-actor.all c.args.self.now.most c.in-Some.actor c.loop-actor.event_queue.ends c.pop.new.self.items c.args.self.now.few inv)
          place one.started (c.loop-actor.invariant.so_far.started c.in-Some.actor on) on one.calm c.note_starts.new.self.starters.items c.in_ok-note_starts-in-Some-2.ensures.starters;
      so_far = rw (c.note_starts.ensures.touched, c.note_starts.ensures.ends) (starts-more (g.F.Firing.net c.args.self.now.net.now) c.args.self.now.moment c.args.actors.now c.loop-actor.actors c.loop-actor.tokens c.loop-actor.all c.args.self.now.most c.in-Some.actor c.loop-actor.event_queue.ends c.pop.new.self.items c.args.self.now.few inv on
          c.start_one.new.tokens c.start_one.new.state c.in-Some-2.firings done.0 one c.start_one.ensures.long c.loop-actor.event_queue.ends (inr (busy, refl)));
    }

pub loop-actor-init : goal.loop-actor-init
loop-actor-init g c = record {
  so_far = starts-none (g.F.Firing.net c.args.self.now.net.now) c.args.self.now.moment c.args.actors.now c.args.tokens.now c.args.all.now c.args.self.now.most c.args.event_queue.now.ends c.args.event_queue.now.touched.items c.requires.stand c.requires.counted c.requires.event_queue c.requires.lacks;
  starters = rw c.clear.ensures.items (none-started (g.F.Firing.net c.args.self.now.net.now) c.args.actors.now);
}

pub loop-actor-preserved-then-not-actors-actor : goal.loop-actor-preserved-then-not-actors-actor
loop-actor-preserved-then-not-actors-actor g c =
    let inv : StartsSoFar (g.F.Firing.net c.args.self.now.net.now) c.args.self.now.moment c.args.actors.now c.loop-actor.actors c.loop-actor.tokens c.loop-actor.all c.args.self.now.most c.loop-actor.event_queue.ends (c.pop.new.self.items ++ c.in-Some.actor ∷ []) =
    subst (StartsSoFar (g.F.Firing.net c.args.self.now.net.now) c.args.self.now.moment c.args.actors.now c.loop-actor.actors c.loop-actor.tokens c.loop-actor.all c.args.self.now.most c.loop-actor.event_queue.ends) c.in-Some.ensures.items c.loop-actor.invariant.so_far in
    let off : touched_in c.loop-actor.actors c.in-Some.actor ≡ false = sym (ap (λ (x : ActorState). x.touched) (get_or_default c.loop-actor.actors c.in-Some.actor c.index-actors-actor.result idle (place (g.F.Firing.net c.args.self.now.net.now) c.args.self.now.moment c.args.actors.now c.loop-actor.actors c.loop-actor.tokens c.loop-actor.all c.args.self.now.most c.in-Some.actor c.loop-actor.event_queue.ends c.pop.new.self.items c.args.self.now.few inv))) ∙ c.if-not-actors-actor.true in record {
      so_far = starts-past (g.F.Firing.net c.args.self.now.net.now) c.args.self.now.moment c.args.actors.now c.loop-actor.actors c.loop-actor.tokens c.loop-actor.all c.args.self.now.most c.in-Some.actor c.loop-actor.event_queue.ends c.pop.new.self.items c.args.self.now.few inv off;
      starters = c.loop-actor.invariant.starters;
    }

pub loop-actor-smaller-then-not-actors-actor : goal.loop-actor-smaller-then-not-actors-actor
loop-actor-smaller-then-not-actors-actor g c = omega (arith, length_push c.pop.new.self.items c.in-Some.actor, ap length c.in-Some.ensures.items)

pub loop-actor-smaller : goal.loop-actor-smaller
loop-actor-smaller g c = rw c.note_starts.ensures.touched (omega (arith, length_push c.pop.new.self.items c.in-Some.actor, ap length c.in-Some.ensures.items))

pub loop-actor-smaller-in-Continue-branch-4 : goal.loop-actor-smaller-in-Continue-branch-4
loop-actor-smaller-in-Continue-branch-4 g c = rw (c.announce.ensures.touched, c.note_starts.ensures.touched) (omega (arith, length_push c.pop.new.self.items c.in-Some.actor, ap length c.in-Some.ensures.items))

pub bounds-actors-actor : goal.bounds-actors-actor
bounds-actors-actor g c =
    let inv : StartsSoFar (g.F.Firing.net c.args.self.now.net.now) c.args.self.now.moment c.args.actors.now c.loop-actor.actors c.loop-actor.tokens c.loop-actor.all c.args.self.now.most c.loop-actor.event_queue.ends (c.pop.new.self.items ++ c.in-Some.actor ∷ []) =
    subst (StartsSoFar (g.F.Firing.net c.args.self.now.net.now) c.args.self.now.moment c.args.actors.now c.loop-actor.actors c.loop-actor.tokens c.loop-actor.all c.args.self.now.most c.loop-actor.event_queue.ends) c.in-Some.ensures.items c.loop-actor.invariant.so_far in
    place (g.F.Firing.net c.args.self.now.net.now) c.args.self.now.moment c.args.actors.now c.loop-actor.actors c.loop-actor.tokens c.loop-actor.all c.args.self.now.most c.in-Some.actor c.loop-actor.event_queue.ends c.pop.new.self.items c.args.self.now.few inv

pub bounds-actors-actor-in-Some : goal.bounds-actors-actor-in-Some
bounds-actors-actor-in-Some g c =
    let inv : StartsSoFar (g.F.Firing.net c.args.self.now.net.now) c.args.self.now.moment c.args.actors.now c.loop-actor.actors c.loop-actor.tokens c.loop-actor.all c.args.self.now.most c.loop-actor.event_queue.ends (c.pop.new.self.items ++ c.in-Some.actor ∷ []) =
    subst (StartsSoFar (g.F.Firing.net c.args.self.now.net.now) c.args.self.now.moment c.args.actors.now c.loop-actor.actors c.loop-actor.tokens c.loop-actor.all c.args.self.now.most c.loop-actor.event_queue.ends) c.in-Some.ensures.items c.loop-actor.invariant.so_far in
    place (g.F.Firing.net c.args.self.now.net.now) c.args.self.now.moment c.args.actors.now c.loop-actor.actors c.loop-actor.tokens c.loop-actor.all c.args.self.now.most c.in-Some.actor c.loop-actor.event_queue.ends c.pop.new.self.items c.args.self.now.few inv

pub bounds-actors-actor-in-Some-2 : goal.bounds-actors-actor-in-Some-2
bounds-actors-actor-in-Some-2 g c =
    let inv : StartsSoFar (g.F.Firing.net c.args.self.now.net.now) c.args.self.now.moment c.args.actors.now c.loop-actor.actors c.loop-actor.tokens c.loop-actor.all c.args.self.now.most c.loop-actor.event_queue.ends (c.pop.new.self.items ++ c.in-Some.actor ∷ []) =
    subst (StartsSoFar (g.F.Firing.net c.args.self.now.net.now) c.args.self.now.moment c.args.actors.now c.loop-actor.actors c.loop-actor.tokens c.loop-actor.all c.args.self.now.most c.loop-actor.event_queue.ends) c.in-Some.ensures.items c.loop-actor.invariant.so_far in
    place (g.F.Firing.net c.args.self.now.net.now) c.args.self.now.moment c.args.actors.now c.loop-actor.actors c.loop-actor.tokens c.loop-actor.all c.args.self.now.most c.in-Some.actor c.loop-actor.event_queue.ends c.pop.new.self.items c.args.self.now.few inv

pub index-requires : goal.index-requires
index-requires g c =
    let inv : StartsSoFar (g.F.Firing.net c.args.self.now.net.now) c.args.self.now.moment c.args.actors.now c.loop-actor.actors c.loop-actor.tokens c.loop-actor.all c.args.self.now.most c.loop-actor.event_queue.ends (c.pop.new.self.items ++ c.in-Some.actor ∷ []) =
    subst (StartsSoFar (g.F.Firing.net c.args.self.now.net.now) c.args.self.now.moment c.args.actors.now c.loop-actor.actors c.loop-actor.tokens c.loop-actor.all c.args.self.now.most c.loop-actor.event_queue.ends) c.in-Some.ensures.items c.loop-actor.invariant.so_far in
    let inside : c.in-Some.actor < length (g.F.Firing.net c.args.self.now.net.now).times = actor (g.F.Firing.net c.args.self.now.net.now) c.args.self.now.moment c.args.actors.now c.loop-actor.actors c.loop-actor.tokens c.loop-actor.all c.args.self.now.most c.in-Some.actor c.loop-actor.event_queue.ends c.pop.new.self.items c.args.self.now.few inv in
    omega (arith, c.args.self.now.ported.long)

pub of-requires : goal.of-requires
of-requires g c =
    let inv : StartsSoFar (g.F.Firing.net c.args.self.now.net.now) c.args.self.now.moment c.args.actors.now c.loop-actor.actors c.loop-actor.tokens c.loop-actor.all c.args.self.now.most c.loop-actor.event_queue.ends (c.pop.new.self.items ++ c.in-Some.actor ∷ []) =
    subst (StartsSoFar (g.F.Firing.net c.args.self.now.net.now) c.args.self.now.moment c.args.actors.now c.loop-actor.actors c.loop-actor.tokens c.loop-actor.all c.args.self.now.most c.loop-actor.event_queue.ends) c.in-Some.ensures.items c.loop-actor.invariant.so_far in
    let inside : c.in-Some.actor < length (g.F.Firing.net c.args.self.now.net.now).times = actor (g.F.Firing.net c.args.self.now.net.now) c.args.self.now.moment c.args.actors.now c.loop-actor.actors c.loop-actor.tokens c.loop-actor.all c.args.self.now.most c.in-Some.actor c.loop-actor.event_queue.ends c.pop.new.self.items c.args.self.now.few inv in
    record { cuts = c.args.self.now.ported.inputs.cuts; actor = omega (arith, c.args.self.now.ported.inputs.long) }

pub returns-clause-started : goal.returns-clause-started
returns-clause-started g c =
    let none : length c.loop-actor.event_queue.touched.items ≡ 0 = omega (arith, c.in_default.ensures.cases.0) in
    starts-done (g.F.Firing.net c.args.self.now.net.now) c.args.self.now.moment c.args.actors.now c.loop-actor.actors c.loop-actor.tokens c.loop-actor.all c.args.self.now.most c.loop-actor.event_queue.ends c.loop-actor.event_queue.touched.items (nil_from_length c.loop-actor.event_queue.touched.items none) c.loop-actor.invariant.so_far
