use Rattle.std.proofs.Common.{◌≡◌, ◌≢◌, ◌<◌, length, ap, ◌∙◌, arith}
use Rattle.std.specs.Prelude.{slice_index_or}
use Rattle.std.proofs.lemmas.List.{get_or_default}
use Rattle.selftimed.specs.declared.actors.ActorState.{ActorState}
use Rattle.selftimed.specs.inside.Actors.{idle, lacking_in}
use Rattle.selftimed.proofs.FiringsEnd.{lists-more, kept-more, touched-now, itself-skip, itself-more}
use Rattle.selftimed.proofs.ends.DueActor.touch_itself.Goals as goal

pub returns-in_ok-touch-clause-lists : goal.returns-in_ok-touch-clause-lists
returns-in_ok-touch-clause-lists g c =
    let place : c.args.self.now.actor < length c.args.actors.now = omega (arith, c.args.self.now.is_actor, c.requires.long) in
    rw c.in_ok-touch.ensures.state (lists-more (g.F.Firing.net c.args.self.now.net.now) c.args.actors.now c.args.event_queue.now.touched.items c.touch.new.self.touched.items c.args.self.now.actor c.args.self.now.is_actor place
    (slice_index_or c.args.actors.now c.args.self.now.actor c.index-actors-self-then-actors-self.result) (get_or_default c.args.actors.now c.args.self.now.actor c.index-actors-self-then-actors-self.result idle place) c.requires.lists c.in_ok-touch.ensures.touched)

pub returns-in_ok-touch-clause-touched : goal.returns-in_ok-touch-clause-touched
returns-in_ok-touch-clause-touched g c =
    let place : c.args.self.now.actor < length c.args.actors.now = omega (arith, c.args.self.now.is_actor, c.requires.long) in
    let base : ActorState = slice_index_or c.args.actors.now c.args.self.now.actor c.index-actors-self-then-actors-self.result in
    let was : base ≡ slice_index_or c.args.actors.now c.args.self.now.actor idle = get_or_default c.args.actors.now c.args.self.now.actor c.index-actors-self-then-actors-self.result idle place in
    rw c.in_ok-touch.ensures.state (itself-more c.args.self.now.own c.args.self.now.actor c.args.actors.now _
    (kept-more (g.F.Firing.net c.args.self.now.net.now) c.args.actors.now c.args.event_queue.now.touched.items c.touch.new.self.touched.items c.args.self.now.actor c.args.self.now.is_actor place base was c.requires.lists c.in_ok-touch.ensures.touched)
    (touched-now (g.F.Firing.net c.args.self.now.net.now) c.args.actors.now c.args.event_queue.now.touched.items c.touch.new.self.touched.items c.args.self.now.actor c.args.self.now.is_actor place base was c.requires.lists c.in_ok-touch.ensures.touched))

pub returns-else-actors-self-clause-touched : goal.returns-else-actors-self-clause-touched
returns-else-actors-self-clause-touched g c =
    let place : c.args.self.now.actor < length c.args.actors.now = omega (arith, c.args.self.now.is_actor, c.requires.long) in
    let was = get_or_default c.args.actors.now c.args.self.now.actor c.index-actors-self.result idle place in
    let other : lacking_in c.args.actors.now c.args.self.now.actor ≢ c.in-Some.channel = λ e. c.if-actors-self.false (ap (λ (s : ActorState). s.lacking) was ∙ e) in
    itself-skip c.args.self.now.own c.args.self.now.actor c.args.actors.now (rw c.in-Some.is other)

pub returns-in_default-clause-touched : goal.returns-in_default-clause-touched
returns-in_default-clause-touched g c = itself-skip c.args.self.now.own c.args.self.now.actor c.args.actors.now (rw c.in_default.is tt)
