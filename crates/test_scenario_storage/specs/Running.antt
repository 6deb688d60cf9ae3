-- Files whose scenarios run without bounds.
use Rattle.std.specs.Prelude.{◌≡◌, ℕ, ◌*◌, ◌≤◌, false, List, Some, slice_get, sum}
use Rattle.sd_base.specs.declared.limits.TheConstants.{STAMPS}
use Rattle.sd_base.specs.declared.tables.GraphFile.{GraphFile}
use Rattle.sd_base.specs.declared.tables.ScenarioFile.{ScenarioFile}
use Rattle.sd_base.specs.declared.tables.ScenarioRow.{ScenarioRow}
use Rattle.sd_base.specs.FileNet.{net_of}
use Rattle.sd_base.specs.Schedules.{HasInputs}
use Rattle.sd_base.specs.Untimed.{IsLive}
use Rattle.balance.specs.Repetition.{IsRound}

-- the graph runs rounds so, with so many shared tokens
pub record RunsRounds (tokens : ℕ) (g : GraphFile) (gamma : List ℕ) : Type 0 where
  pub round : IsRound g gamma
  pub inputs : HasInputs (net_of g gamma false)
  pub live : IsLive (net_of g gamma false)
  pub stamps : sum gamma * tokens ≤ STAMPS

abbrev pub Runs : ℕ → GraphFile → Type 0
Runs tokens g = (gamma : List ℕ) × RunsRounds tokens g gamma

-- each scenario of the file does
abbrev pub AllRun : ScenarioFile → ℕ → Type 0
AllRun file tokens = (k : ℕ) (row : ScenarioRow) → slice_get file.scenarios k ≡ Some row → Runs tokens row.graph
