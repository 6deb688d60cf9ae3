use Rattle.cert_checker.proofs.AnswersJudgeLines.{first-starts}
use Rattle.cert_checker.proofs.points.schedule_fault.Goals as goal

pub returns-in-Some : goal.returns-in-Some
returns-in-Some g c = rw c.from.ensures (first-starts (g.F.Firing.net c.args.net.now) c.args.point.now c.in-Some.actor (c.is_schedule_line.ensures.0 c.if-not-is_schedule_line.false) c.in-Some.ensures)
