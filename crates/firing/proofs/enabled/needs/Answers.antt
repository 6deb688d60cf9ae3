use Rattle.std.proofs.Common.{arith}
use Rattle.sd_base.specs.Net.{channel_at}
use Rattle.sd_base.proofs.SumsRepeatByTurns.{total-bound}
use Rattle.firing.proofs.enabled.needs.Goals as goal

pub overflow_add-result : goal.overflow_add-result
overflow_add-result g c =
    omega (
      arith,
      c.ranges.made.fits,
      c.know_laws.ensures.few_tokens c.args.channel c.requires.channel,
      total-bound (channel_at (g.F.Firing.net c.args.net.now) c.args.channel).made 1000000 c.args.made (λ p. c.know_laws.ensures.small_made c.args.channel p c.requires.channel),
    )
