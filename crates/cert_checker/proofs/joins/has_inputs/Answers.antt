use Rattle.std.proofs.Common.{◌≡◌, ℕ, ◌<◌, length, below_more}
use Rattle.sd_base.specs.Net.{channel_at}
use Rattle.cert_checker.proofs.joins.has_inputs.Goals as goal

pub loop-actor-preserved : goal.loop-actor-preserved
loop-actor-preserved g c =
    below_more (λ a. (i : ℕ) × (i < length (g.F.Firing.net c.args.net.now).channels) × ((channel_at (g.F.Firing.net c.args.net.now) i).target ≡ a)) c.loop-actor.actor c.loop-actor.invariant (c.has_input.ensures.0 c.if-not-has_input.false)
