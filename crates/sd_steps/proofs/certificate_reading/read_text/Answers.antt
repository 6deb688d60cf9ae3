use Rattle.std.proofs.Common.{inl, inr}
use Rattle.sd_steps.proofs.CertificateLines.{few_lines}
use Rattle.sd_steps.proofs.certificate_reading.read_text.Goals as goal

pub returns-in-Ok-clause-does : goal.returns-in-Ok-clause-does
returns-in-Ok-clause-does c = elim c.in-Ok.ensures.exact [ inl none ↦ absurd (cc (none)) | inr is ↦ is ]

pub returns-in-Ok-clause-lines : goal.returns-in-Ok-clause-lines
returns-in-Ok-clause-lines c = few_lines c.args.bytes.now c.in-Ok.read.0 c.in-Ok.read.1 c.spelled_lines_fit.ensures c.in-Ok.ensures.text c.requires
