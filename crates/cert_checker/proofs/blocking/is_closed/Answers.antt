use Rattle.std.proofs.Common.{ℕ, ◌<◌, below_more, slice_index, sym, ◌∙◌, true≢false, ⊎_elim, arith}
use Rattle.sd_base.specs.Schedules.{Lacks}
use Rattle.sd_base.specs.Untimed.{CanFire}
use Rattle.storage.proofs.BlockingStays.{can_or_lacks}
use Rattle.cert_checker.proofs.blocking.is_closed.Goals as goal
use Rattle.cert_checker.proofs.blocking.is_closed.Goals.{else-counts-actor-via-then-counts-actor+else-can_fire, else-counts-actor-via-else-counts-actor}

pub loop-actor-preserved : goal.loop-actor-preserved
loop-actor-preserved g c =
    let net = g.F.Firing.net c.args.net.now in
    let v : ℕ → ℕ = slice_index c.args.counts.now in
    let a : ℕ = c.loop-actor.actor in
    below_more (λ b. slice_index c.args.counts.now b < slice_index net.round b → Lacks net v b (v b)) a c.loop-actor.invariant
    (λ short. elim c.else-counts-actor.branch [
      | else-counts-actor-via-then-counts-actor+else-can_fire w ↦ ⊎_elim
          (λ (can : CanFire net v a). absurd (true≢false (sym (w.can_fire.ensures.1 can) ∙ w.if-can_fire.false)))
          (λ (lack : Lacks net v a (v a)). lack)
          (can_or_lacks net v a)
      | else-counts-actor-via-else-counts-actor w ↦ absurd (omega (arith, short, w.if-counts-actor.false, c.round.ensures))
    ])
