use Rattle.std.proofs.Common.{ℕ, List, refl, subst}
use Rattle.sd_base.specs.declared.limits.TheConstants.{CERTIFICATE_BYTES}
use Rattle.sd_base.specs.Limits.{greatest_of}
use Rattle.sd_steps.specs.Certifyings.{certifying}
use Rattle.sd_steps.specs.Steps.{Does}
use Rattle.sd_steps.proofs.TextsDecideFiles.{filed_does}
use Rattle.sd_steps.proofs.certifying.certify.Goals as goal

pub returns : goal.returns
unfolding greatest_of
returns c =
    subst (λ (name : List ℕ). Does (certifying c.args.kind name c.args.certificate.now) c.filed.result) c.in_ok-name.ensures
    (filed_does c.args.kind c.in_ok-name.name c.args.certificate.now c.in_ok-too_long.too_long CERTIFICATE_BYTES refl c.in_ok-too_long.ensures c.write_certificate.result c.filed.result
    c.write_certificate.ensures.text c.write_certificate.ensures.read c.write_certificate.ensures.short c.write_certificate.ensures.long c.filed.ensures)
