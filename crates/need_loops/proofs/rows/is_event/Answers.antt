use Rattle.std.proofs.Common.{◌≡◌, ℕ, ◌+◌, ◌<◌, ◌∙◌, [], length, refl, arith}
use Rattle.std.specs.Prelude.{slice_index, slice_index_or}
use Rattle.std.proofs.lemmas.List.{get_or_default}
use Rattle.sd_base.specs.Schedules.{time_of}
use Rattle.loops.proofs.RowsTellStarts.{starts-ascend}
use Rattle.need_loops.proofs.RowLoops.{EndsIn, ends-event, event-ends}
use Rattle.need_loops.proofs.rows.is_event.Goals as goal

pub ends_at-requires-clause-ascend : goal.ends_at-requires-clause-ascend
ends_at-requires-clause-ascend g c =
    let actor : c.loop-actor.actor < length (g.F.Firing.net c.args.net.now).times = omega (arith, c.loop-actor-test.true, c.actors-actor-end.ensures) in
    let place : c.loop-actor.actor < length c.args.starts.now = omega (arith, c.requires.starts.2.rows) in
    let row : c.as_slice.result.now ≡ slice_index_or c.args.starts.now c.loop-actor.actor [] = c.as_slice.ensures ∙ (c.index-starts-actor.is ∙ get_or_default c.args.starts.now c.loop-actor.actor c.index-starts-actor.result [] place) in
    rw row (starts-ascend (g.F.Firing.net c.args.net.now) (g.met.F.Firing.lawful c.args.net.now) c.requires.inputs c.requires.starts.0 c.args.starts.now c.requires.starts.2 c.loop-actor.actor actor)

pub returns-then-ends_at : goal.returns-then-ends_at
returns-then-ends_at g c =
    let actor : c.loop-actor.actor < length (g.F.Firing.net c.args.net.now).times = omega (arith, c.loop-actor-test.true, c.actors-actor-end.ensures) in
    let place : c.loop-actor.actor < length c.args.starts.now = omega (arith, c.requires.starts.2.rows) in
    let row : c.as_slice.result.now ≡ slice_index_or c.args.starts.now c.loop-actor.actor [] = c.as_slice.ensures ∙ (c.index-starts-actor.is ∙ get_or_default c.args.starts.now c.loop-actor.actor c.index-starts-actor.result [] place) in
    let found : (k : ℕ) × (k < length (slice_index_or c.args.starts.now c.loop-actor.actor [])) × (slice_index (slice_index_or c.args.starts.now c.loop-actor.actor []) k + time_of (g.F.Firing.net c.args.net.now) c.loop-actor.actor k ≡ c.args.moment) =
    rw row at (c.ends_at.ensures.0 c.if-ends_at.true) in (
      λ yes. ends-event (g.F.Firing.net c.args.net.now) (g.met.F.Firing.lawful c.args.net.now) c.requires.inputs c.requires.starts.0 c.args.starts.now c.requires.starts.2 c.args.moment c.requires.starts.1
          (record { actor = c.loop-actor.actor; firing = found.0; is_actor = actor; started = found.1; ends = found.2 }),
      λ event. refl,
    )

pub returns : goal.returns
returns g c = (
  λ no. cc,
  λ event.
      let all : c.loop-actor.actor ≡ length (g.F.Firing.net c.args.net.now).times = omega (arith, c.loop-actor-test.false, c.actors-actor-end.ensures, c.loop-actor.auto.actor-end) in
      let found : EndsIn (g.F.Firing.net c.args.net.now) c.args.starts.now c.args.moment =
      event-ends (g.F.Firing.net c.args.net.now) (g.met.F.Firing.lawful c.args.net.now) c.requires.inputs c.requires.starts.0 c.args.starts.now c.requires.starts.2 c.args.moment c.requires.starts.1 (omega (arith, c.if-moment-eq0.false)) event in
      absurd (c.loop-actor.invariant found.actor found.firing (rw all found.is_actor) found.started found.ends),
)
