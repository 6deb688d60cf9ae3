use Rattle.cert_maker.proofs.ValidRates.{rates-valid}
use Rattle.cert_maker.proofs.laws.rate_certificates_are_valid.Goals as goal

pub returns : goal.returns
returns c = rates-valid
