use Rattle.std.proofs.Common.{inr}
use Rattle.cert_text.proofs.LinesMakeCertificates.{read-ok, read-err}
use Rattle.cert_text.proofs.reading.read_certificate.Goals as goal

pub returns-in-Ok-clause-exact : goal.returns-in-Ok-clause-exact
returns-in-Ok-clause-exact c = inr (read-ok _ _ _ c.in-Ok.ensures.exact)

pub returns-in-Err-clause-exact : goal.returns-in-Err-clause-exact
returns-in-Err-clause-exact c = read-err _ _ _ _ c.in-Err.ensures.exact c.error_at.ensures.exact
