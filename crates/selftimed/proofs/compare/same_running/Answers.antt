use Rattle.std.proofs.Common.{◌≡◌, ◌-◌, ◌<◌, length, map, refl, sym, ap, ◌∙◌, arith, below_more}
use Rattle.std.specs.Prelude.{slice_index_or}
use Rattle.std.proofs.lemmas.Bool.{false≢true}
use Rattle.std.proofs.lemmas.List.{get_or_default}
use Rattle.selftimed.specs.declared.actors.ActorState.{ActorState}
use Rattle.selftimed.specs.inside.Actors.{idle, running_in}
use Rattle.selftimed.proofs.ShapesFollowActors.{past-at}
use Rattle.selftimed.proofs.ShapesAgreeByActor.{times-agree, times-apart}
use Rattle.selftimed.proofs.compare.same_running.Goals as goal

pub same_times_left-requires-clause-left : goal.same_times_left-requires-clause-left
same_times_left-requires-clause-left c =
    past-at c.args.now c.args.left.now c.loop-actor.actor c.index-left-actor.result c.index-left-actor.result.running c.requires.left c.loop-actor-test.true (get_or_default c.args.left.now c.loop-actor.actor idle c.index-left-actor.result c.loop-actor-test.true ∙ sym c.index-left-actor.is) refl

pub same_times_left-requires-clause-right : goal.same_times_left-requires-clause-right
same_times_left-requires-clause-right c =
    let there : c.loop-actor.actor < length c.args.right.now = omega (arith, c.loop-actor-test.true, c.requires.long) in
    let one : ActorState = slice_index_or c.args.right.now c.loop-actor.actor c.index-right-actor.result in
    past-at c.args.then c.args.right.now c.loop-actor.actor one one.running c.requires.right there (get_or_default c.args.right.now c.loop-actor.actor idle c.index-right-actor.result there) refl

pub returns-then-not-same_times_left : goal.returns-then-not-same_times_left
returns-then-not-same_times_left c =
    let there : c.loop-actor.actor < length c.args.right.now = omega (arith, c.loop-actor-test.true, c.requires.long) in
    let left : running_in c.args.left.now c.loop-actor.actor ≡ c.index-left-actor.result.running = ap (λ (s : ActorState). s.running) (get_or_default c.args.left.now c.loop-actor.actor idle c.index-left-actor.result c.loop-actor-test.true ∙ sym c.index-left-actor.is) in
    let right : running_in c.args.right.now c.loop-actor.actor ≡ (slice_index_or c.args.right.now c.loop-actor.actor c.index-right-actor.result).running = ap (λ (s : ActorState). s.running) (get_or_default c.args.right.now c.loop-actor.actor idle c.index-right-actor.result there) in (
      λ not. absurd (false≢true not),
      λ same. absurd (times-apart c.args.now c.args.left.now c.args.then c.args.right.now c.loop-actor.actor c.loop-actor-test.true c.requires.long
          (λ e. false≢true (c.if-not-same_times_left.ensures.1 (rw (← left, ← right) e))) same),
    )

pub loop-actor-preserved : goal.loop-actor-preserved
loop-actor-preserved c =
    let there : c.loop-actor.actor < length c.args.right.now = omega (arith, c.loop-actor-test.true, c.requires.long) in
    let left : running_in c.args.left.now c.loop-actor.actor ≡ c.index-left-actor.result.running = ap (λ (s : ActorState). s.running) (get_or_default c.args.left.now c.loop-actor.actor idle c.index-left-actor.result c.loop-actor-test.true ∙ sym c.index-left-actor.is) in
    let right : running_in c.args.right.now c.loop-actor.actor ≡ (slice_index_or c.args.right.now c.loop-actor.actor c.index-right-actor.result).running = ap (λ (s : ActorState). s.running) (get_or_default c.args.right.now c.loop-actor.actor idle c.index-right-actor.result there) in
    below_more (λ a. map (λ e. e - c.args.now) (running_in c.args.left.now a) ≡ map (λ e. e - c.args.then) (running_in c.args.right.now a)) c.loop-actor.actor c.loop-actor.invariant
    (rw (left, right) (c.if-not-same_times_left.ensures.0 refl))

pub returns : goal.returns
returns c = (
  λ yes. times-agree c.args.now c.args.left.now c.args.then c.args.right.now c.loop-actor.actor (omega (arith, c.loop-actor-test.false)) c.requires.long c.loop-actor.invariant,
  λ same. refl,
)
