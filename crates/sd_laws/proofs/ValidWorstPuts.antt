-- What `scenario` puts is a valid certificate.
use Rattle.std.proofs.Common.{◌≡◌, ◌≤◌, Some, length, ap, subst, ◌∙◌}
use Rattle.sd_base.specs.declared.limits.Quantity.TheVariants as quantities
use Rattle.sd_base.specs.Limits.{greatest_of}
use Rattle.sd_base.specs.declared.tables.ScenarioFile.{ScenarioFile}
use Rattle.sd_words.specs.declared.request.Request.TheVariants.{Scenario}
use Rattle.cert_text.specs.declared.certificates.Certificate.{Certificate}
use Rattle.cert_text.specs.Reading.{IsCertText}
use Rattle.cert_maker.proofs.ValidWorstRates.{worst-rates-valid}
use Rattle.sd_steps.specs.declared.file_kind.FileKind.TheVariants as kinds
use Rattle.sd_steps.specs.Certifyings.{text_of}
use Rattle.sd_steps.specs.Courses.{Answered}
use Rattle.sd_laws.specs.PutCertificates.{WorstRatesPutAreValid}
use Rattle.sd_steps.specs.ScenarioSteps.{opening_scenarios, timing}
use Rattle.sd_command.specs.commands.WorstRates.{IsWorstAnswer}
use Rattle.sd_laws.proofs.CommandsDecide.{goes_past}
use Rattle.sd_laws.proofs.RequestsGoOn.{of_request}

pub worst_rates_put_are_valid : WorstRatesPutAreValid
worst_rates_put_are_valid words files name put answer n tells asked due =
    let came = of_request words files (Scenario name (Some put)) asked (Answered answer) n tt due in
    let opened = goes_past (opening_scenarios files name) _ (Answered answer) n tt came in
    let file : ScenarioFile = opened.0 in
    let link = goes_past (timing file) _ (Answered answer) n tt opened.2 in
    let told : IsWorstAnswer file link.0 (Some put) answer n = link.2 in
    let shown = told.is in
    let made = told.put.1 in
    let is : told.put.0 ≡ _ = made.1 in
    record {
      bytes = opened.1.0;
      scenarios = file;
      graph = link.0;
      certificate = made.0;
      there = opened.1.1.told tells;
      fits = opened.1.1.fits;
      given = opened.1.2;
      timed = link.1;
      file = told.put.2.2 ∙ ap Some (told.put.2.1.1 ∙ ap (λ (c : Certificate). record { kind = kinds.Certificate; name = put; bytes = text_of c }) is);
      short = subst (λ (c : Certificate). length (text_of c) ≤ greatest_of quantities.CertificateBytes) is told.put.2.1.0;
      read = subst (λ (c : Certificate). IsCertText (text_of c) 2 c) is told.put.2.1.2;
      valid = worst-rates-valid file link.0 told.worst made.0 shown.timed shown.rate shown.critical shown.fit shown.reached made.2;
    }
