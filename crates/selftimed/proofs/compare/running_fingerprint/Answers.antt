use Rattle.std.proofs.Common.{◌≡◌, ℕ, ◌+◌, ◌*◌, ◌%◌, ◌^◌, take, sym, refl, ◌∙◌, arith}
use Rattle.std.proofs.lemmas.List.{get_or_default}
use Rattle.selftimed.specs.inside.Actors.{idle}
use Rattle.selftimed.specs.inside.Standings.{remaining_now}
use Rattle.selftimed.specs.Fingerprints.{weight, weighed_from, running_fingerprint_of}
use Rattle.selftimed.proofs.ShapesFollowActors.{past-at}
use Rattle.selftimed.proofs.RunningFingerprints.{running-more}
use Rattle.selftimed.proofs.compare.running_fingerprint.Goals.{then-left-ne0, else-left-ne0}
use Rattle.selftimed.proofs.compare.running_fingerprint.Goals as goal

pub loop-actor-init : goal.loop-actor-init
unfolding weighed_from
loop-actor-init c = refl

pub time_left-left-requires : goal.time_left-left-requires
time_left-left-requires c =
    past-at c.args.moment c.args.actors.now c.loop-actor.actor c.index-actors-actor.result c.index-actors-actor.result.running c.requires c.loop-actor-test.true (get_or_default c.args.actors.now c.loop-actor.actor idle c.index-actors-actor.result c.loop-actor-test.true ∙ sym c.index-actors-actor.is) refl

pub loop-actor-preserved : goal.loop-actor-preserved
loop-actor-preserved c =
    let read = get_or_default c.args.actors.now c.loop-actor.actor idle c.index-actors-actor.result c.loop-actor-test.true ∙ sym c.index-actors-actor.is in
    let more : (w add : ℕ) → w ≡ weight c.loop-actor.actor → add ≡ (w * c.time_left-left.result) % 2 ^ 64 →
    (c.loop-actor.fingerprint + add) % 2 ^ 64 ≡ running_fingerprint_of (remaining_now c.args.moment (take (c.loop-actor.actor + 1) c.args.actors.now)) = λ w add weighs added.
    running-more c.args.moment c.args.actors.now c.loop-actor.actor c.index-actors-actor.result c.loop-actor.fingerprint w c.time_left-left.result add c.loop-actor-test.true read c.loop-actor.invariant weighs c.time_left-left.ensures added in
    elim c.if-left-ne0.branch [
      | then-left-ne0 w ↦ rw w.fingerprint-is (more w.weight_of.result _ w.weight_of.ensures refl)
      | else-left-ne0 w ↦
          let none : 0 ≡ (weight c.loop-actor.actor * c.time_left-left.result) % 2 ^ 64 = rw w.if-left-ne0.false (omega arith) in
          rw w.fingerprint-is (omega (arith, c.loop-actor.auto.fingerprint-fits) ∙ more (weight c.loop-actor.actor) 0 refl none)
    ]
