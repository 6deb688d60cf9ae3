-- The files whose shared channels can be bounded within a limit of storage, and what their bounded files keep.
use Rattle.std.specs.Prelude.{◌≡◌, ◌≢◌, ℕ, ◌+◌, ◌*◌, ◌≤◌, false, Option, Some, List, [], ◌∷◌, length, slice_get, sum, if◌then◌else◌}
use Rattle.sd_base.specs.declared.limits.TheConstants.{AUTOMATON_STATES, NODES, STAMPS}
use Rattle.sd_base.specs.declared.tables.ChannelRow.{ChannelRow}
use Rattle.sd_base.specs.declared.tables.GraphFile.{GraphFile}
use Rattle.sd_base.specs.declared.tables.ScenarioFile.{ScenarioFile}
use Rattle.sd_base.specs.declared.tables.ScenarioRow.{ScenarioRow}
use Rattle.sd_base.specs.declared.tables.SharedRow.{SharedRow}
use Rattle.sd_base.specs.FileNet.{net_of}
use Rattle.sd_base.specs.Net.{IsRepetitionOf}
use Rattle.sd_base.specs.Scenarios.{FileKeepsRules, LeadsOn, shared_count}
use Rattle.sd_base.specs.Schedules.{HasInputs}
use Rattle.sd_base.specs.Untimed.{IsLive}
use Rattle.balance.specs.Repetition.{IsRound}
use Rattle.token_matrix.specs.EntryWays.{CarriesStamps}
use Rattle.bounded_scenarios.specs.SharedChannels.{channels_named, is_looped}
use Rattle.bounded_scenarios.specs.BoundedFiles.{bounded_file, bounded_graph, space_name}

-- the tokens of the shared rows that get no capacity, since their channel is a self-loop in some scenario
abbrev pub looped_tokens : List ScenarioRow → List SharedRow → ℕ
looped_tokens ss [] = 0
looped_tokens ss (row ∷ rows) = (if is_looped (channels_named ss row.name) then row.tokens else 0) + looped_tokens ss rows

-- a scenario that can run without bounds, whose round times so many shared tokens is within the limit of stamps
pub record RunsUnbounded (tokens : ℕ) (row : ScenarioRow) : Type 0 where
  pub gamma : List ℕ
  pub round : IsRound row.graph gamma
  pub inputs : HasInputs (net_of row.graph gamma false)
  pub live : IsLive (net_of row.graph gamma false)
  pub stamps : sum gamma * tokens ≤ STAMPS

-- no name of a channel begins as those of free spaces do
abbrev pub AreFileNames : List ChannelRow → Type 0
AreFileNames cs = (i : ℕ) (c : ChannelRow) (name : List ℕ) → slice_get cs i ≡ Some c → c.name ≢ space_name name

-- the file keeps the rules, no channel has the name of a free space, each scenario runs without bounds, and stamps and nodes are
-- within their limits for each distribution of so much storage
pub record CanBeBounded (file : ScenarioFile) (total : ℕ) : Type 0 where
  pub rules : FileKeepsRules file
  pub names : (k : ℕ) (row : ScenarioRow) → slice_get file.scenarios k ≡ Some row → AreFileNames row.graph.channels
  pub runs : (k : ℕ) (row : ScenarioRow) → slice_get file.scenarios k ≡ Some row → RunsUnbounded (total + looped_tokens file.scenarios file.shared) row
  pub nodes : length file.states * (total + looped_tokens file.scenarios file.shared) ≤ NODES

-- what is asked of a scenario for its matrix; then the limit of stamps isn't passed
pub record GivesMatrix (shared : List SharedRow) (g : GraphFile) (gamma : List ℕ) : Type 0 where
  pub carries : CarriesStamps shared g gamma
  pub inputs : HasInputs (net_of g gamma false)
  pub stamps : sum gamma * shared_count shared ≤ STAMPS

-- what is asked of a bounded file for its timed graph and its worst rate
pub record CanBeMeasured (file : ScenarioFile) (ds : List (Option ℕ)) : Type 0 where
  pub scenarios : (k : ℕ) (row : ScenarioRow) (gamma : List ℕ) → slice_get file.scenarios k ≡ Some row → IsRepetitionOf row.graph gamma →
      GivesMatrix (bounded_file file ds).shared (bounded_graph file.shared ds row.graph) gamma
  pub leads_on : LeadsOn (bounded_file file ds)
  pub few_states : length file.states ≤ AUTOMATON_STATES
  pub few_nodes : length file.states * shared_count (bounded_file file ds).shared ≤ NODES
  pub some_token : 1 ≤ shared_count (bounded_file file ds).shared
