-- A run of `scenario-storage` whose limits are enough is done.
use Rattle.std.proofs.Common.{◌≡◌, ℕ, ◌+◌, List, Some, IsSome, Ok, arith}
use Rattle.sd_base.specs.declared.tables.ScenarioFile.{ScenarioFile}
use Rattle.sd_words.specs.declared.request.Request.TheVariants.{ScenarioStorage}
use Rattle.sd_words.specs.Asked.{request_of}
use Rattle.scenario_reader.specs.ScenarioFiles.{GivesFile}
use Rattle.bounded_scenarios.specs.Boundings.{looped_tokens}
use Rattle.scenario_storage.specs.declared.point.ScenarioLimits.{ScenarioLimits}
use Rattle.report.specs.declared.refusal.Refusal.{Refusal}
use Rattle.sd_io.specs.Outside.{Files, file_under}
use Rattle.sd_steps.specs.Courses.{Ended}
use Rattle.sd_command.specs.Requests.{course_of}
use Rattle.sd_steps.specs.ScenarioBounds.{bounding_all, fitting_nodes}
use Rattle.sd_steps.specs.ScenarioSteps.{opening_scenarios}
use Rattle.sd_command.specs.commands.ScenarioPoints.{IsSearchEnd, edges, distributions_spent}
use Rattle.sd_laws.specs.Endings.{ScenarioStorageIsComplete, SearchSuffices}
use Rattle.sd_laws.proofs.CommandsDecide.{never_ends}
use Rattle.sd_laws.proofs.DecidedRunsEnd.{else_is_done}
use Rattle.sd_laws.proofs.RequestsGoOn.{of_request}

-- where the limits are enough, no search is ended by them
unspent : (file : ScenarioFile) (limits : ScenarioLimits) → SearchSuffices file limits → (r : Refusal) → IsSearchEnd file limits r → ⊥
unspent file limits enough r (edges at is told) =
    let few = enough.edges at.capacities is.0 is.1.0 is.1.1.0 is.1.1.1 in
    let many = is.1.1.2 in
    omega (arith, few, many)
unspent file limits enough r (distributions_spent is told) =
    let few = enough.few is.0 is.1 in
    let many = is.2 in
    omega (arith, few, many)

module _ (words : List (List ℕ)) (shelf : Files) (tells : IsSome shelf) (name : List ℕ) (limits : ScenarioLimits) (asked : request_of words ≡ Ok (ScenarioStorage name limits.total limits.distributions)) where
  -- nothing ends it but what words and files decide
  unended : ((bytes : List ℕ) (file : ScenarioFile) → file_under shelf name ≡ Some bytes → GivesFile bytes file → SearchSuffices file limits)
      → (r : Refusal) (n : ℕ) → course_of words shelf (Ended r) n → ⊥
  unended enough r n ended =
      never_ends (opening_scenarios shelf name) _ r n (λ file opened.
      let tokens : ℕ = limits.total + looped_tokens file.scenarios file.shared in
      never_ends (bounding_all file tokens) _ r n (λ a bounded.
      never_ends (fitting_nodes file tokens) _ r n (λ b few end.
      unspent file limits (enough opened.0 file (opened.1.told tells) opened.2) r end.1)))
      (of_request words shelf (ScenarioStorage name limits.total limits.distributions) asked (Ended r) n tt ended)

pub scenario_storage_is_complete : ScenarioStorageIsComplete
scenario_storage_is_complete run cut name limits good asked unrefused enough =
    else_is_done run cut good unrefused (unended run.words run.outside.shelf.files good.told name limits asked enough)
