-- A file that can be bounded is searchable, and its bounded files can be measured.
use Rattle.std.proofs.Common.{◌≡◌, ℕ, zero, suc, ◌≤◌, ◌<◌, true, Option, List, [], ◌∷◌, length, refl, arith}
use Rattle.std.specs.Prelude.{slice_index_or}
use Rattle.sd_base.specs.declared.tables.ScenarioFile.{ScenarioFile}
use Rattle.sd_base.specs.declared.tables.ScenarioRow.{ScenarioRow}
use Rattle.sd_base.specs.declared.tables.SharedRow.{SharedRow}
use Rattle.sd_base.specs.Lawful.{is_token_role}
use Rattle.sd_base.specs.Net.{nowhere}
use Rattle.storage.specs.Distributions.{AtMost, IsDistribution, storage_of}
use Rattle.storage.specs.Steps.{IsCorner, rounded}
use Rattle.storage.proofs.StepsReachMembers.{HasSteps}
use Rattle.storage.proofs.FrontsFromMembers.{AreLowest}
use Rattle.bounded_scenarios.specs.Boundings.{CanBeBounded, CanBeMeasured}
use Rattle.bounded_scenarios.specs.SharedChannels.{shared_channels, shared_channels_from}
use Rattle.bounded_scenarios.specs.StorageRates.{HasWorstRate}
use Rattle.bounded_scenarios.proofs.AboveCorner.{above-corner, rates-are-lowest}
use Rattle.bounded_scenarios.proofs.BoundedRatesExist.{measurable}
use Rattle.bounded_scenarios.proofs.SharedSteps.{shared-steps}
use Rattle.scenario_storage.specs.inside.Levels.{IsWithin}

-- what runs within the limit is, rounded down, at least the corner
abbrev pub IsAboveCorner : ScenarioFile → ℕ → Type 0
IsAboveCorner file limit =
    (corner ds : List (Option ℕ)) (p q : ℕ) → IsCorner (shared_channels file) corner → IsDistribution (shared_channels file) ds → storage_of (shared_channels file) ds ≤ limit →
    HasWorstRate file ds p q → 1 ≤ p → AtMost corner (rounded (shared_channels file) ds)

pub record IsSearchable (file : ScenarioFile) (limit : ℕ) : Type 0 where
  pub steps : HasSteps (shared_channels file)
  pub lowest : AreLowest (HasWorstRate file)
  pub above : IsAboveCorner file limit
  pub roles : (i : ℕ) → i < length (shared_channels file) → is_token_role (slice_index_or (shared_channels file) i nowhere).role ≡ true

-- shared channels are those of a file
pub token-roles : (ss : List ScenarioRow) (p : ℕ) (rows : List SharedRow) (i : ℕ) → i < length (shared_channels_from ss p rows) →
    is_token_role (slice_index_or (shared_channels_from ss p rows) i nowhere).role ≡ true
token-roles ss p [] i below = absurd (omega (arith, below))
token-roles ss p (row ∷ rows) zero below = refl
token-roles ss p (row ∷ rows) (suc i) below = token-roles ss (suc p) rows i (omega (arith, below))

-- a file that can be bounded is searchable
pub searchable : (file : ScenarioFile) (limit : ℕ) → CanBeBounded file limit → IsSearchable file limit
searchable file limit can = record {
  steps = shared-steps file can.rules;
  lowest = rates-are-lowest file;
  above = λ corner ds p q is dist within rate runs. above-corner file limit can corner ds p q is dist within rate runs;
  roles = λ i below. token-roles file.scenarios 0 file.shared i below;
}

-- and its bounded files can be measured
pub can-measure : (file : ScenarioFile) (limit : ℕ) → CanBeBounded file limit → (ds : List (Option ℕ)) → IsWithin file limit ds → CanBeMeasured file ds
can-measure file limit can ds fits = measurable file limit can ds fits.distribution fits.within
