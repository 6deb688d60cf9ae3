-- Names that a file of scenarios can have.
use Rattle.std.specs.Prelude.{All}
use Rattle.sd_base.specs.declared.tables.ScenarioFile.{ScenarioFile}
use Rattle.sd_base.specs.declared.tables.ScenarioRow.{ScenarioRow}
use Rattle.sd_base.specs.declared.tables.SharedRow.{SharedRow}
use Rattle.sd_base.specs.declared.tables.StateRow.{StateRow}
use Rattle.graph_reader.specs.WritableNames.{IsWritableName, HasWritableNames}

-- scenarios, with the actors and channels of their graphs, shared rows and states have names that can be written
pub record FileHasWritableNames (f : ScenarioFile) : Type 0 where
  pub scenarios : All (λ (s : ScenarioRow). IsWritableName s.name) f.scenarios
  pub graphs : All (λ (s : ScenarioRow). HasWritableNames s.graph) f.scenarios
  pub shared : All (λ (r : SharedRow). IsWritableName r.name) f.shared
  pub states : All (λ (s : StateRow). IsWritableName s.name) f.states
