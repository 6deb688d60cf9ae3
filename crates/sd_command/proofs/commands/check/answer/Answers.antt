use Rattle.std.proofs.Common.{◌∙◌, Ok, Err, refl, arith}
use Rattle.std.proofs.lemmas.Result.{err_from_is_err_and}
use Rattle.sd_io.specs.Outside.{Files}
use Rattle.sd_steps.specs.declared.file_kind.FileKind.TheVariants.{Graph}
use Rattle.sd_steps.specs.CertificateReadings.{opening_certificate}
use Rattle.sd_command.specs.commands.Checks.{checked}
use Rattle.sd_steps.specs.Takings.{taking}
use Rattle.sd_command.proofs.command_lemmas.CommandsFollowSteps.{taking_stops, taken_on, takes_after, same_bytes}
use Rattle.sd_command.proofs.commands.check.answer.Goals as goal

pub returns-in_err-bytes : goal.returns-in_err-bytes
returns-in_err-bytes g c =
    let p = err_from_is_err_and c.from_residual.result c.from_residual.ensures.1 in
    rw (p.1, p.2) (record {
      answers = record {
        goes = taking_stops _ _ _ refl _ _ _ c.in_err-bytes.ensures.takes;
        stays = c.in_err-bytes.ensures.stays;
        grows = c.in_err-bytes.ensures.grows;
      };
    })

pub returns-in_err-read : goal.returns-in_err-read
returns-in_err-read g c =
    let shelf : Files = g.S.Shelf.files c.args.shelf.now in
    let p = err_from_is_err_and c.from_residual-in_err-read.result c.from_residual-in_err-read.ensures.1 in
    rw (p.1, p.2) (record {
      answers = record {
        goes =
            taken_on (taking shelf Graph c.args.graph.now) _ c.in_ok-bytes.bytes _ 0 _ _ _ c.in_ok-bytes.ensures.takes
            (taking_stops (opening_certificate shelf c.args.certificate.now) _ 0 refl _ _ _
            (takes_after shelf _ c.in_ok-bytes.ensures.stays (λ files. opening_certificate files c.args.certificate.now) (Err c.in_err-read.field-0.0) _ _ c.in_err-read.ensures.takes));
        stays = c.in_err-read.ensures.stays ∙ c.in_ok-bytes.ensures.stays;
        grows = omega (arith, c.in_err-read.ensures.grows, c.in_ok-bytes.ensures.grows);
      };
    })

pub returns : goal.returns
returns g c =
    let shelf : Files = g.S.Shelf.files c.args.shelf.now in
    record {
      answers = record {
        goes =
            taken_on (taking shelf Graph c.args.graph.now) _ c.in_ok-bytes.bytes _ 0 _ _ _ c.in_ok-bytes.ensures.takes
            (taken_on (opening_certificate shelf c.args.certificate.now) _ c.in_ok-read.read _ 0 _ _ _
            (takes_after shelf _ c.in_ok-bytes.ensures.stays (λ files. opening_certificate files c.args.certificate.now) (Ok c.in_ok-read.read) _ _ c.in_ok-read.ensures.takes)
            (same_bytes (checked c.in_ok-read.read.0 c.in_ok-read.read.1) c.in_ok-bytes.bytes _ _ 0 _ _ c.as_slice.ensures (c.checked.ensures _)));
        stays = c.in_ok-read.ensures.stays ∙ c.in_ok-bytes.ensures.stays;
        grows = omega (arith, c.in_ok-read.ensures.grows, c.in_ok-bytes.ensures.grows);
      };
    }
