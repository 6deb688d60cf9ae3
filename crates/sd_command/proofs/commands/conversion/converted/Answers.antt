use Rattle.std.proofs.Common.{◌∙◌, Some, ap, refl}
use Rattle.std.proofs.lemmas.Result.{err_from_is_err_and}
use Rattle.report.specs.declared.claims.CertificateKind.{CertificateKind}
use Rattle.report.specs.ClaimTexts.{converted_line}
use Rattle.sd_steps.specs.declared.file_kind.FileKind.TheVariants.{Output}
use Rattle.sd_steps.specs.Certifyings.{certifying}
use Rattle.sd_command.proofs.command_lemmas.CommandsFollowSteps.{step_stops, goes_on}
use Rattle.sd_command.proofs.command_lemmas.AnalysesEndCommands.{print_answers}
use Rattle.sd_command.proofs.commands.conversion.converted.Goals as goal

pub returns-in_err-put : goal.returns-in_err-put
returns-in_err-put c = λ faults.
    let p = err_from_is_err_and c.from_residual.result c.from_residual.ensures.1 in
    rw (p.1, p.2) (step_stops (certifying Output c.args.output.now c.args.certificate.now) _ 0 refl _ faults c.in_err-put.ensures)

pub returns : goal.returns
returns c = λ faults.
    goes_on (certifying Output c.args.output.now c.args.certificate.now) _ c.in_ok-put.put _ 0 faults faults c.in_ok-put.ensures
    (print_answers _ (Some c.in_ok-put.put) _ faults (c.in_ok-converted_text.ensures ∙ ap (λ (k : CertificateKind). converted_line k) c.kind_of.ensures) refl)
