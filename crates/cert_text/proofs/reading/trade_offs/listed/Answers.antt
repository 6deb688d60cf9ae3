use Rattle.cert_text.proofs.ListedCycles.{listed-explored}
use Rattle.cert_text.proofs.reading.trade_offs.listed.Goals as goal

pub returns-clause-text : goal.returns-clause-text
returns-clause-text c = rw c.from_vec.ensures (listed-explored _ _ _ _ _ _ c.in_ok-count.ensures.text c.in_ok-members.ensures.many c.in_ok-members.ensures.text)
