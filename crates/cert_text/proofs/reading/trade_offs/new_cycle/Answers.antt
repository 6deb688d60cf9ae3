use Rattle.cert_text.proofs.FoundCycles.{fresh-cycle}
use Rattle.cert_text.proofs.reading.trade_offs.new_cycle.Goals as goal

pub returns-clause-text : goal.returns-clause-text
returns-clause-text c =
    let found = c.in_ok-found.ensures.exact in
    let fresh = fresh-cycle _ _ found.0 c.in_ok-found.found.is_new c.if-not-found.false found.3 found.4 in
    (found.0, found.5, found.6, fresh.0, fresh.1)
