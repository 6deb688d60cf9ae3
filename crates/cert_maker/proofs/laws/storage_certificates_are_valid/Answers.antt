use Rattle.cert_maker.proofs.ValidTradeOffs.{trade-offs-valid}
use Rattle.cert_maker.proofs.laws.storage_certificates_are_valid.Goals as goal

pub returns : goal.returns
returns c = trade-offs-valid c.cycles_bound_the_rate.ensures.rate
