use Rattle.std.proofs.Common.{◌≡◌, ℕ, ◌≤◌, ◌<◌, ◌∙◌, length, ⊎_elim, subst, sym, arith}
use Rattle.std.specs.Prelude.{slice_index, slice_index_or}
use Rattle.std.proofs.lemmas.Bool.{cases_lt, false≢true}
use Rattle.std.proofs.lemmas.List.{get_or_default}
use Rattle.sd_base.specs.Net.{channel_at, phase_entry}
use Rattle.selftimed.specs.declared.actors.ActorState.{ActorState}
use Rattle.selftimed.specs.inside.Actors.{idle, started_in, lacking_in}
use Rattle.selftimed.proofs.FiringsEnd.{touches-more, touches-skip}
use Rattle.selftimed.proofs.ends.DueActor.touch_targets.Goals as goal
use Rattle.selftimed.proofs.ends.DueActor.touch_targets.Goals.{then-has_enough+in_ok-touch, else-has_enough}

pub loop-channel-preserved : goal.loop-channel-preserved
loop-channel-preserved g c =
    let i : ℕ = slice_index c.args.self.now.outputs.now c.loop-channel.channel-index in
    let below : i < length (g.F.Firing.net c.args.self.now.net.now).channels = c.args.self.now.listed.place c.loop-channel.channel-index c.loop-channel-test.true in
    let target : c.target_of-target.result ≡ (channel_at (g.F.Firing.net c.args.self.now.net.now) i).target = c.target_of-target.ensures ∙ (c.args.self.now.rated.each i below).target in
    let actor : c.target_of-target.result < length (g.F.Firing.net c.args.self.now.net.now).times = omega (arith, target, (g.met.F.Firing.lawful c.args.self.now.net.now).targets i below) in
    let place : c.target_of-target.result < length c.loop-channel.actors = omega (arith, c.loop-channel.auto.actors, c.requires.long) in
    elim c.if-has_enough.branch [
      | then-has_enough+in_ok-touch w ↦ rw (w.actors-is, w.event_queue-is) (
        rw w.in_ok-touch.ensures.state (touches-more (g.F.Firing.net c.args.self.now.net.now) c.loop-channel.actors c.loop-channel.event_queue.touched.items w.touch.new.self.touched.items c.target_of-target.result actor place (slice_index_or c.loop-channel.actors c.target_of-target.result w.index-actors-target-then-has_enough.result)
            (get_or_default c.loop-channel.actors c.target_of-target.result w.index-actors-target-then-has_enough.result idle place) c.loop-channel.invariant.0.lists w.in_ok-touch.ensures.touched
            c.args.tokens.now c.args.self.now.outputs.now c.args.actors.now c.loop-channel.channel-index target c.loop-channel.invariant.0),
        w.touch.ensures.ends ∙ c.loop-channel.invariant.1,
      )
      | else-has_enough w ↦
          let law = rw w.if-has_enough.false at c.has_enough.ensures in
          let short : (slice_index_or c.loop-channel.actors c.target_of-target.result c.index-actors-target.result).lacking ≡ i →
          slice_index c.args.tokens.now i < phase_entry (channel_at (g.F.Firing.net c.args.self.now.net.now) i).taken (slice_index_or c.loop-channel.actors c.target_of-target.result c.index-actors-target.result).started =
          λ here. ⊎_elim (λ (h : slice_index c.args.tokens.now i < phase_entry (channel_at (g.F.Firing.net c.args.self.now.net.now) i).taken (slice_index_or c.loop-channel.actors c.target_of-target.result c.index-actors-target.result).started). h)
          (λ (enough : phase_entry (channel_at (g.F.Firing.net c.args.self.now.net.now) i).taken (slice_index_or c.loop-channel.actors c.target_of-target.result c.index-actors-target.result).started ≤ slice_index c.args.tokens.now i). absurd (false≢true (law.1 (here, enough))))
          (cases_lt (slice_index c.args.tokens.now i) (phase_entry (channel_at (g.F.Firing.net c.args.self.now.net.now) i).taken (slice_index_or c.loop-channel.actors c.target_of-target.result c.index-actors-target.result).started)) in
          let still : lacking_in c.loop-channel.actors c.target_of-target.result ≡ i → slice_index c.args.tokens.now i < phase_entry (channel_at (g.F.Firing.net c.args.self.now.net.now) i).taken (started_in c.loop-channel.actors c.target_of-target.result) =
          subst (λ (s : ActorState). s.lacking ≡ i → slice_index c.args.tokens.now i < phase_entry (channel_at (g.F.Firing.net c.args.self.now.net.now) i).taken s.started)
          (sym (get_or_default c.loop-channel.actors c.target_of-target.result idle c.index-actors-target.result place)) short in
          rw (w.actors-is, w.event_queue-is) (
            touches-skip (g.F.Firing.net c.args.self.now.net.now) c.args.tokens.now c.args.self.now.outputs.now c.args.actors.now c.loop-channel.actors c.loop-channel.event_queue.touched.items c.loop-channel.channel-index c.target_of-target.result target still c.loop-channel.invariant.0,
            c.loop-channel.invariant.1,
          )
    ]
