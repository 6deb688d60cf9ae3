use Rattle.cert_maker.proofs.LinesStayRight.{entered-next}
use Rattle.cert_maker.proofs.members.shown_by.Goals as goal

pub returns-in_ok-number-in-Cycle-clause-next : goal.returns-in_ok-number-in-Cycle-clause-next
returns-in_ok-number-in-Cycle-clause-next g c = entered-next _ _ _ _ _ c.in_ok-number-in-Cycle.ensures.once c.in_ok-number-in-Cycle.ensures.text
