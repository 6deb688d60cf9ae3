use Rattle.std.proofs.Common.{refl, arith}
use Rattle.cert_checker.proofs.AnswersJudgeLines.{closed-all}
use Rattle.cert_checker.proofs.members.is_closed_at.Goals as goal

pub returns : goal.returns
returns g c =
    (λ yes. closed-all (g.F.Firing.net c.args.net.now) c.args.certificate.now c.args.number c.loop-channel.channel (omega (arith, c.loop-channel-test.false, c.channels-channel-end.ensures)) c.loop-channel.invariant, λ h. refl)
