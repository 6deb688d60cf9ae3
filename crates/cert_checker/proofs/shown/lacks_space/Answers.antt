use Rattle.std.proofs.Common.{arith}
use Rattle.sd_base.specs.Net.{channel_at}
use Rattle.sd_base.proofs.SumsRepeatByTurns.{total-bound}
use Rattle.cert_checker.proofs.shown.lacks_space.Goals as goal

pub overflow_add-result : goal.overflow_add-result
overflow_add-result g c =
    omega (
      arith,
      c.ranges.room.fits,
      c.ranges.taken.fits,
      c.know_laws.ensures.few_tokens c.args.channel c.requires.channel,
      total-bound (channel_at (g.F.Firing.net c.args.net.now) c.args.channel).taken 1000000 c.args.taken (λ p. c.know_laws.ensures.small_taken c.args.channel p c.requires.channel),
    )
