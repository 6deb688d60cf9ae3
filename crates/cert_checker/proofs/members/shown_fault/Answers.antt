use Rattle.std.proofs.Common.{◌<◌, length, refl, subst}
use Rattle.cert_text.specs.MemberLines.{no_cycle}
use Rattle.cert_text.specs.Orderly.{NamesOneOf}
use Rattle.cert_checker.proofs.AnswersJudgeLines.{item-of, judge-cycle}
use Rattle.cert_checker.proofs.members.shown_fault.Goals as goal

pub returns-in-Cycle : goal.returns-in-Cycle
returns-in-Cycle g c =
    let below : c.in-Cycle.cycle < length c.args.cycles.now = subst (NamesOneOf (length c.args.cycles.now)) c.in-Cycle.is c.requires.named in
    judge-cycle (g.F.Firing.net c.args.net.now) c.args.version c.args.cycles.now c.args.shown.now c.in-Cycle.rate c.in-Cycle.cycle c.index-cycles-cycle.result c.cycle_fault.result c.in-Cycle.is
    (item-of c.args.cycles.now c.args.cycles.now c.in-Cycle.cycle c.index-cycles-cycle.result no_cycle refl below c.index-cycles-cycle.is) c.cycle_fault.ensures
