-- A file whose scenarios are tested can be bounded.
use Rattle.std.proofs.Common.{◌≡◌, ℕ, ◌+◌, ◌≤◌, false, true, List, length, Some, subst, arith}
use Rattle.std.specs.Prelude.{All, IsTrue, slice_get}
use Rattle.std.proofs.lemmas.Nat.{mul-le}
use Rattle.sd_base.specs.declared.limits.TheConstants.{NODES, STORAGE}
use Rattle.sd_base.specs.Limits.{greatest_of}
use Rattle.sd_base.specs.declared.tables.ChannelRow.{ChannelRow}
use Rattle.sd_base.specs.declared.tables.ScenarioFile.{ScenarioFile}
use Rattle.sd_base.specs.declared.tables.ScenarioRow.{ScenarioRow}
use Rattle.sd_base.specs.FileNet.{net_of}
use Rattle.sd_base.specs.Scenarios.{FileKeepsRules, shared_count}
use Rattle.sd_base.proofs.ElementsKeepPlaces.{all-get}
use Rattle.file_text.specs.Grammar.{is_character}
use Rattle.graph_reader.specs.WritableNames.{HasWritableNames, IsWritableName}
use Rattle.scenario_reader.specs.ScenarioNames.{FileHasWritableNames}
use Rattle.bounded_scenarios.specs.BoundedFiles.{space_name}
use Rattle.bounded_scenarios.specs.Boundings.{AreFileNames, CanBeBounded, RunsUnbounded, looped_tokens}
use Rattle.bounded_scenarios.proofs.StorageCountsTokens.{looped-few}
use Rattle.sd_steps.specs.ScenarioBounds.{ArePassed, fitting_nodes}
use Rattle.sd_steps.proofs.PathsConnectNets.{fed-inputs}

-- ---- the shared tokens that a distribution can come to

shared-few : (file : ScenarioFile) → FileKeepsRules file → shared_count file.shared ≤ NODES
shared-few file rules =
    let once = mul-le 1 (shared_count file.shared) (length file.states) (shared_count file.shared) rules.some_state (omega arith) in
    let nodes = rules.few_nodes in
    omega (arith, once, nodes)

pub tokens-few : (file : ScenarioFile) (total : ℕ) → FileKeepsRules file → total ≤ STORAGE → total + looped_tokens file.scenarios file.shared ≤ STORAGE + NODES
tokens-few file total rules small =
    let looped = looped-few file.scenarios file.shared in
    let few = shared-few file rules in
    omega (arith, looped, few, small)

-- ---- names that begin with no U+0001

no_space : (name : List ℕ) → All (λ b. IsTrue (is_character b)) (space_name name) → ⊥
no_space name all = let no : false ≡ true = all 0 0 (omega arith) in absurd (cc)

file_names : (cs : List ChannelRow) → All (λ (c : ChannelRow). IsWritableName c.name) cs → AreFileNames cs
file_names cs all i c name at same =
    let good = all-get (λ (d : ChannelRow). IsWritableName d.name) cs i c all at in
    no_space name (subst (λ (n : List ℕ). All (λ b. IsTrue (is_character b)) n) same good.characters)

module _ (file : ScenarioFile) (total : ℕ) where
  abbrev tokens : ℕ
  tokens = total + looped_tokens file.scenarios file.shared

  names : FileHasWritableNames file → (k : ℕ) (row : ScenarioRow) → slice_get file.scenarios k ≡ Some row → AreFileNames row.graph.channels
  names good k row at = file_names row.graph.channels (all-get (λ (r : ScenarioRow). HasWritableNames r.graph) file.scenarios k row good.graphs at).channels

  runs : ArePassed file tokens → (k : ℕ) (row : ScenarioRow) → slice_get file.scenarios k ≡ Some row → RunsUnbounded tokens row
  unfolding greatest_of
  runs passed k row at =
      let p = passed k row at in
      record { gamma = p.0; round = p.1; inputs = fed-inputs (net_of row.graph p.0 false) p.2.1; live = p.2.2.2; stamps = p.2.2.1 }

  pub can-be-bounded : FileKeepsRules file → FileHasWritableNames file → ArePassed file tokens → (fitting_nodes file tokens).passes tt → CanBeBounded file total
  unfolding greatest_of
  can-be-bounded rules good passed fits = record { rules = rules; names = names good; runs = runs passed; nodes = fits }
