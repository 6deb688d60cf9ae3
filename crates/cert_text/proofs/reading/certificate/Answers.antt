use Rattle.cert_text.proofs.LinesMakeCertificates.{read-all}
use Rattle.cert_text.proofs.reading.certificate.Goals as goal

pub returns-clause-text : goal.returns-clause-text
returns-clause-text c = read-all _ _ c.in_ok-version.version c.in_ok-certificate.certificate c.in_ok-version.ensures.text c.in_ok-certificate.ensures.text
