-- A file whose scenarios are tested can be bounded.
use Rattle.std.proofs.Common.{◌≡◌, ℕ, ◌+◌, ◌*◌, ◌≤◌, false, true, List, length, Some, subst, arith}
use Rattle.std.specs.Prelude.{All, IsTrue, slice_get}
use Rattle.sd_base.specs.declared.limits.TheConstants.{NODES}
use Rattle.sd_base.specs.declared.tables.ChannelRow.{ChannelRow}
use Rattle.sd_base.specs.declared.tables.ScenarioFile.{ScenarioFile}
use Rattle.sd_base.specs.declared.tables.ScenarioRow.{ScenarioRow}
use Rattle.sd_base.specs.Scenarios.{FileKeepsRules}
use Rattle.sd_base.proofs.ElementsKeepPlaces.{all-get}
use Rattle.file_text.specs.Grammar.{is_character}
use Rattle.graph_reader.specs.WritableNames.{HasWritableNames, IsWritableName}
use Rattle.scenario_reader.specs.ScenarioNames.{FileHasWritableNames}
use Rattle.bounded_scenarios.specs.BoundedFiles.{space_name}
use Rattle.bounded_scenarios.specs.Boundings.{AreFileNames, CanBeBounded, RunsUnbounded, looped_tokens}
use Rattle.test_scenario_storage.specs.Running.{AllRun, Runs}

-- U+0001 begins no name of a file
no_space : (name : List ℕ) → All (λ b. IsTrue (is_character b)) (space_name name) → ⊥
no_space name all = let no : false ≡ true = all 0 0 (omega arith) in absurd (cc)

file_names : (cs : List ChannelRow) → All (λ (c : ChannelRow). IsWritableName c.name) cs → AreFileNames cs
file_names cs all i c name at same =
    let good = all-get (λ (d : ChannelRow). IsWritableName d.name) cs i c all at in
    no_space name (subst (λ (n : List ℕ). All (λ b. IsTrue (is_character b)) n) same good.characters)

names : (file : ScenarioFile) → FileHasWritableNames file → (k : ℕ) (row : ScenarioRow) → slice_get file.scenarios k ≡ Some row → AreFileNames row.graph.channels
names file good k row at = file_names row.graph.channels (all-get (λ (r : ScenarioRow). HasWritableNames r.graph) file.scenarios k row good.graphs at).channels

unbounded : (tokens : ℕ) (row : ScenarioRow) → Runs tokens row.graph → RunsUnbounded tokens row
unbounded tokens row runs = record { gamma = runs.0; round = runs.1.round; inputs = runs.1.inputs; live = runs.1.live; stamps = runs.1.stamps }

-- the looped tokens are n
pub can-be-bounded : (file : ScenarioFile) (total n : ℕ) → FileKeepsRules file → FileHasWritableNames file → n ≡ looped_tokens file.scenarios file.shared →
    AllRun file (total + n) → length file.states * (total + n) ≤ NODES → CanBeBounded file total
can-be-bounded file total n rules good is all few =
    let run = subst (λ (m : ℕ). AllRun file (total + m)) is all in
    record {
      rules = rules;
      names = names file good;
      runs = λ k row at. unbounded (total + looped_tokens file.scenarios file.shared) row (run k row at);
      nodes = subst (λ (m : ℕ). length file.states * (total + m) ≤ NODES) is few;
    }
