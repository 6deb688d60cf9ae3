-- Runs of `check` and of `convert` are done where nothing refuses them.
use Rattle.std.proofs.Common.{◌≡◌, ℕ, true, List, Ok}
use Rattle.cert_text.specs.declared.certificates.Certificate.{Certificate}
use Rattle.cert_text.specs.declared.certificates.Certificate.TheVariants as certificates
use Rattle.sd_words.specs.declared.request.Request.TheVariants.{Check, Convert}
use Rattle.sd_words.specs.Asked.{request_of}
use Rattle.report.specs.declared.refusal.Refusal.{Refusal}
use Rattle.sd_io.specs.Outside.{Files}
use Rattle.sd_steps.specs.declared.file_kind.FileKind.TheVariants as files
use Rattle.sd_steps.specs.Balancings.{balancing}
use Rattle.sd_steps.specs.CertificateReadings.{opening_certificate}
use Rattle.sd_steps.specs.Certifyings.{certifying}
use Rattle.sd_command.specs.commands.Checks.{checked}
use Rattle.sd_steps.specs.Courses.{Ended}
use Rattle.sd_laws.specs.Endings.{CheckIsComplete, ConvertIsComplete}
use Rattle.sd_steps.specs.Readings.{reading_graph}
use Rattle.sd_command.specs.Requests.{course_of}
use Rattle.sd_steps.specs.ScenarioSteps.{reading_scenarios, timing}
use Rattle.sd_steps.specs.Takings.{taking}
use Rattle.sd_laws.proofs.CommandsDecide.{never_ends}
use Rattle.sd_laws.proofs.RequestsGoOn.{of_request}
use Rattle.sd_laws.proofs.DecidedRunsEnd.{else_is_done}

-- nothing ends a check but what words and files decide
unended_check : (version : ℕ) (c : Certificate) (bytes : List ℕ) (r : Refusal) (n : ℕ) → checked version c bytes (Ended r) n → ⊥
unended_check version (certificates.Rate c) bytes r n =
    never_ends (reading_graph bytes true) _ r n (λ graph given.
    never_ends (balancing graph) _ r n (λ gamma round end. end))
unended_check version (certificates.Storage c) bytes r n =
    never_ends (reading_graph bytes true) _ r n (λ graph given.
    never_ends (balancing graph) _ r n (λ gamma round end. end))
unended_check version (certificates.Scenario c) bytes r n =
    never_ends (reading_scenarios bytes) _ r n (λ file given.
    never_ends (timing file) _ r n (λ graph timed end. end))

module _ (words : List (List ℕ)) (shelf : Files) (r : Refusal) (n : ℕ) where
  check_never_ends : (graph certificate : List ℕ) → request_of words ≡ Ok (Check graph certificate) → course_of words shelf (Ended r) n → ⊥
  check_never_ends graph certificate asked ended =
      never_ends (taking shelf files.Graph graph) _ r n (λ bytes taken.
      never_ends (opening_certificate shelf certificate) _ r n (λ read opened.
      unended_check read.0 read.1 bytes r n))
      (of_request words shelf (Check graph certificate) asked (Ended r) n tt ended)

  convert_never_ends : (certificate output : List ℕ) → request_of words ≡ Ok (Convert certificate output) → course_of words shelf (Ended r) n → ⊥
  convert_never_ends certificate output asked ended =
      never_ends (opening_certificate shelf certificate) _ r n (λ read opened.
      never_ends (certifying files.Output output read.1) _ r n (λ put made end. end))
      (of_request words shelf (Convert certificate output) asked (Ended r) n tt ended)

pub check_is_complete : CheckIsComplete
check_is_complete run cut graph certificate good asked unrefused =
    else_is_done run cut good unrefused (λ r n. check_never_ends run.words run.outside.shelf.files r n graph certificate asked)

pub convert_is_complete : ConvertIsComplete
convert_is_complete run cut certificate output good asked unrefused =
    else_is_done run cut good unrefused (λ r n. convert_never_ends run.words run.outside.shelf.files r n certificate output asked)
