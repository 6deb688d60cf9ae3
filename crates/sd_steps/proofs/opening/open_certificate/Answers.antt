use Rattle.std.proofs.Common.{◌≤◌, ℕ, List, length, sym, subst}
use Rattle.std.proofs.lemmas.Result.{err_from_is_err_and}
use Rattle.sd_base.specs.declared.limits.TheConstants.{CERTIFICATE_BYTES}
use Rattle.sd_base.specs.Limits.{greatest_of}
use Rattle.sd_steps.specs.declared.file_kind.FileKind.TheVariants.{Certificate}
use Rattle.sd_steps.specs.CertificateReadings.{reading_certificate}
use Rattle.sd_steps.specs.Takings.{taking}
use Rattle.sd_steps.proofs.StepsCompose.{taken_through, taking_through}
use Rattle.sd_steps.proofs.opening.open_certificate.Goals as goal

pub returns-in_err-bytes-clause-takes : goal.returns-in_err-bytes-clause-takes
returns-in_err-bytes-clause-takes g c =
    let p = err_from_is_err_and c.from_residual.result c.from_residual.ensures.1 in
    rw (p.1, p.2) (taking_through (taking (g.S.Shelf.files c.args.shelf.now) Certificate c.args.name.now) (λ bytes. reading_certificate bytes) _ _ _ c.in_err-bytes.ensures.takes)

pub read_text-requires : goal.read_text-requires
unfolding greatest_of
read_text-requires g c = subst (λ (bs : List ℕ). length bs ≤ CERTIFICATE_BYTES) (sym c.as_slice.ensures) c.in_ok-bytes.ensures.takes.0.fits

pub returns-clause-takes : goal.returns-clause-takes
returns-clause-takes g c =
    taken_through (taking (g.S.Shelf.files c.args.shelf.now) Certificate c.args.name.now) (λ bytes. reading_certificate bytes) c.in_ok-bytes.bytes _ c.read_text.result _ _ c.in_ok-bytes.ensures.takes c.as_slice.ensures c.read_text.ensures.does
