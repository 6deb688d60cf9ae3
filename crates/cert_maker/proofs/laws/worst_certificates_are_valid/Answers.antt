use Rattle.cert_maker.proofs.ValidWorstRates.{worst-rates-valid}
use Rattle.cert_maker.proofs.laws.worst_certificates_are_valid.Goals as goal

pub returns : goal.returns
returns c = worst-rates-valid
