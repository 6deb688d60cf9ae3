-- The worst rate of a storage distribution of shared channels, and the Pareto points.
use Rattle.std.specs.Prelude.{◌≡◌, ℕ, false, Option, Some, List, slice_get}
use Rattle.sd_base.specs.declared.tables.GraphFile.{GraphFile}
use Rattle.sd_base.specs.declared.tables.ScenarioFile.{ScenarioFile}
use Rattle.sd_base.specs.declared.tables.ScenarioRow.{ScenarioRow}
use Rattle.sd_base.specs.declared.tables.SharedRow.{SharedRow}
use Rattle.sd_base.specs.Net.{Net, IsRepetitionOf}
use Rattle.sd_base.specs.FileNet.{net_of}
use Rattle.sd_base.specs.Untimed.{IsLive}
use Rattle.automaton.specs.WorstRates.{IsWorst}
use Rattle.bounded_scenarios.specs.BoundedFiles.{bounded_file, bounded_graph}

-- the net of a scenario whose shared channels have these capacities
abbrev pub bounded_net : List SharedRow → List (Option ℕ) → GraphFile → List ℕ → Net
bounded_net rows ds g gamma = net_of (bounded_graph rows ds g) gamma false

-- a scenario can complete its round
abbrev pub RunsOn : ScenarioFile → List (Option ℕ) → ScenarioRow → Type 0
RunsOn file ds row = (gamma : List ℕ) × IsRepetitionOf row.graph gamma × IsLive (bounded_net file.shared ds row.graph gamma)

-- so can each scenario
abbrev pub AllRun : ScenarioFile → List (Option ℕ) → Type 0
AllRun file ds = (s : ℕ) (row : ScenarioRow) → slice_get file.scenarios s ≡ Some row → RunsOn file ds row

-- the worst rate of a distribution is num/den: that of the bounded file, or 0 where some scenario's round comes to no end
pub data HasWorstRate (file : ScenarioFile) (ds : List (Option ℕ)) : ℕ → ℕ → Type 0 where
  blocked : (s : ℕ) (row : ScenarioRow) → slice_get file.scenarios s ≡ Some row → ¬ RunsOn file ds row → HasWorstRate file ds 0 1
  runs : (l w : ℕ) → AllRun file ds → IsWorst (bounded_file file ds) l w → HasWorstRate file ds l w
