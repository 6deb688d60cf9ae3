-- The command `scenario-storage`.
use Rattle.std.specs.Prelude.{◌≡◌, ℕ, ◌+◌, List, None}
use Rattle.sd_base.specs.declared.limits.Quantity.TheVariants as quantities
use Rattle.sd_base.specs.declared.tables.ScenarioFile.{ScenarioFile}
use Rattle.sd_base.specs.Limits.{greatest_of}
use Rattle.storage.specs.declared.distribution.Distribution.{Distribution}
use Rattle.bounded_scenarios.specs.Boundings.{looped_tokens}
use Rattle.scenario_storage.specs.declared.error.ScenarioStorageError.TheVariants as errors
use Rattle.scenario_storage.specs.declared.point.ScenarioLimits.{ScenarioLimits}
use Rattle.scenario_storage.specs.declared.point.ScenarioPoint.{ScenarioPoint}
use Rattle.scenario_storage.specs.ScenarioPoints.{AreScenarioPoints, IsRefusal}
use Rattle.report.specs.declared.refusal.Refusal.{Refusal}
use Rattle.report.specs.declared.refusal.Refusal.TheVariants.{DistributionsSpent, EdgesAt}
use Rattle.report.specs.ScenarioPointTexts.{scenario_points_lines}
use Rattle.report.specs.StorageTexts.{shared_buffers_list}
use Rattle.sd_io.specs.Outside.{Files}
use Rattle.sd_steps.specs.declared.answer.Answer.{Answer}
use Rattle.sd_steps.specs.Courses.{Analysis, Ending, After, ends_by}
use Rattle.sd_steps.specs.ScenarioBounds.{bounding_all, fitting_nodes}
use Rattle.sd_steps.specs.ScenarioSteps.{opening_scenarios}

-- the search for the points of a file passes the limit of edges with a distribution that can be reached, or more distributions
-- can be reached than it may find
pub data IsSearchEnd (file : ScenarioFile) (limits : ScenarioLimits) (refusal : Refusal) : Type 0 where
  edges : (at : Distribution) → IsRefusal file limits (errors.Edges at)
      → refusal ≡ EdgesAt (greatest_of quantities.Edges) (shared_buffers_list file.shared at.capacities) → IsSearchEnd file limits refusal
  distributions_spent : IsRefusal file limits errors.DistributionsSpent → refusal ≡ DistributionsSpent limits.distributions → IsSearchEnd file limits refusal

-- the points, which are exactly the Pareto points of all distributions within the limit, are told; nothing is executed
pub record IsSearchAnswer (file : ScenarioFile) (limits : ScenarioLimits) (answer : Answer) (n : ℕ) : Type 0 where
  pub points : List ScenarioPoint
  pub are : AreScenarioPoints file limits points
  pub text : answer.text ≡ scenario_points_lines file points
  pub put : answer.put ≡ None
  pub none : n ≡ 0

abbrev pub searching : ScenarioFile → ScenarioLimits → Analysis
searching file limits = record {
  answered = λ answer n. IsSearchAnswer file limits answer n;
  refused = λ refusal n. ⊥;
  ended = λ refusal n. (n ≡ 0) × IsSearchEnd file limits refusal;
  counted = λ n. n ≡ 0;
}

-- the points of a file: a distribution within the limit has so many shared tokens at most
abbrev pub points_in : ScenarioLimits → ScenarioFile → Ending → ℕ → Type 0
points_in limits file =
    let tokens : ℕ = limits.total + looped_tokens file.scenarios file.shared in
    After (bounding_all file tokens) λ bounded.
    After (fitting_nodes file tokens) λ few.
    ends_by (searching file limits)

abbrev pub scenario_storage : List ℕ → ScenarioLimits → Files → Ending → ℕ → Type 0
scenario_storage name limits files =
    After (opening_scenarios files name) λ file.
    points_in limits file
