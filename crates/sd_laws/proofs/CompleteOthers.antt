-- Runs of `repetition` and of `scenario` are done where nothing refuses them.
use Rattle.std.proofs.Common.{◌≡◌, ℕ, false, List, Option, Some, IsSome, Ok}
use Rattle.sd_base.specs.declared.tables.ScenarioFile.{ScenarioFile}
use Rattle.sd_words.specs.declared.request.Request.TheVariants.{Repetition, Scenario}
use Rattle.sd_words.specs.Asked.{request_of}
use Rattle.scenario_reader.specs.ScenarioFiles.{GivesFile}
use Rattle.report.specs.declared.refusal.Refusal.{Refusal}
use Rattle.sd_io.specs.Outside.{Files, file_under}
use Rattle.sd_steps.specs.Balancings.{balancing}
use Rattle.sd_steps.specs.Courses.{Ended}
use Rattle.sd_laws.specs.Endings.{RepetitionIsComplete, ScenarioIsComplete, WorstCertificatesFit}
use Rattle.sd_steps.specs.Readings.{opening_graph}
use Rattle.sd_command.specs.Requests.{course_of}
use Rattle.sd_steps.specs.ScenarioSteps.{opening_scenarios, timing}
use Rattle.sd_laws.proofs.CommandsDecide.{never_ends}
use Rattle.sd_laws.proofs.CompleteThroughput.{short-enough}
use Rattle.sd_laws.proofs.DecidedRunsEnd.{else_is_done}
use Rattle.sd_laws.proofs.RequestsGoOn.{of_request}

module _ (words : List (List ℕ)) (shelf : Files) (name : List ℕ) (r : Refusal) (n : ℕ) where
  repetition_never_ends : request_of words ≡ Ok (Repetition name) → course_of words shelf (Ended r) n → ⊥
  repetition_never_ends asked ended =
      never_ends (opening_graph shelf name false) _ r n (λ graph opened.
      never_ends (balancing graph) _ r n (λ gamma round end. end))
      (of_request words shelf (Repetition name) asked (Ended r) n tt ended)

  scenario_never_ends : (certificate : Option (List ℕ)) → IsSome shelf → request_of words ≡ Ok (Scenario name certificate)
      → ((bytes : List ℕ) (file : ScenarioFile) → file_under shelf name ≡ Some bytes → GivesFile bytes file → WorstCertificatesFit file certificate) → course_of words shelf (Ended r) n → ⊥
  scenario_never_ends certificate tells asked fit ended =
      never_ends (opening_scenarios shelf name) _ r n (λ file opened.
      never_ends (timing file) _ r n (λ graph timed end.
      short-enough certificate _ r (fit opened.0 file (opened.1.told tells) opened.2 graph end.worst timed end.is) end.long))
      (of_request words shelf (Scenario name certificate) asked (Ended r) n tt ended)

pub repetition_is_complete : RepetitionIsComplete
repetition_is_complete run cut name good asked unrefused =
    else_is_done run cut good unrefused (λ r n. repetition_never_ends run.words run.outside.shelf.files name r n asked)

pub scenario_is_complete : ScenarioIsComplete
scenario_is_complete run cut name certificate good asked unrefused fit =
    else_is_done run cut good unrefused (λ r n. scenario_never_ends run.words run.outside.shelf.files name r n certificate good.told asked fit)
