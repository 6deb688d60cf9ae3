-- The shared channels on which more room could raise the worst rate, and the distributions that a search may come to.
use Rattle.std.specs.Prelude.{◌≡◌, ℕ, ◌+◌, ◌*◌, ◌≤◌, ◌<◌, false, Contains, Option, Some, List, length, slice_get, slice_index}
use Rattle.sd_base.specs.declared.tables.ChannelRow.{ChannelRow}
use Rattle.sd_base.specs.declared.tables.GraphFile.{GraphFile}
use Rattle.sd_base.specs.declared.tables.ScenarioFile.{ScenarioFile}
use Rattle.sd_base.specs.declared.tables.ScenarioRow.{ScenarioRow}
use Rattle.sd_base.specs.declared.tables.SharedRow.{SharedRow}
use Rattle.sd_base.specs.declared.tables.StateRow.{StateRow}
use Rattle.sd_base.specs.Net.{IsRepetitionOf, channel_at}
use Rattle.sd_base.specs.FileNet.{net_of}
use Rattle.sd_base.specs.Schedules.{Needs}
use Rattle.sd_base.specs.Untimed.{Blocks, CanFire, IsEnd}
use Rattle.automaton.specs.declared.graph.Edge.{Edge}
use Rattle.automaton.specs.declared.graph.TimedGraph.{TimedGraph}
use Rattle.automaton.specs.CriticalCycles.{IsCritical}
use Rattle.automaton.specs.TimedGraphs.{IsTimedGraph}
use Rattle.automaton.specs.WorstRates.{IsWorst}
use Rattle.storage.specs.Distributions.{storage_of}
use Rattle.storage.specs.Steps.{IsCorner}
use Rattle.storage.specs.StorageOrder.{stepped}
use Rattle.token_matrix.specs.Stamps.{first_of}
use Rattle.token_matrix.specs.Ways.{IsWay}
use Rattle.bounded_scenarios.specs.SharedChannels.{shared_channels}
use Rattle.bounded_scenarios.specs.BoundedFiles.{bounded_file, bounded_graph, space_name}
use Rattle.bounded_scenarios.specs.StorageRates.{AllRun, RunsOn, bounded_net}

-- channel i of a scenario's bounded graph is the free space of the channel of this name
abbrev pub IsSpaceFor : ScenarioFile → List (Option ℕ) → GraphFile → List ℕ → ℕ → Type 0
IsSpaceFor file ds g name i =
    (length g.channels ≤ i) × ((c : ChannelRow) × (slice_get (bounded_graph file.shared ds g).channels i ≡ Some c) × (c.name ≡ space_name name))

-- after v firings an actor below its round lacks no token on a channel of the file, but free space of the channel of this name
pub record IsHeldUp (file : ScenarioFile) (ds : List (Option ℕ)) (g : GraphFile) (gamma : List ℕ) (v : ℕ → ℕ) (name : List ℕ) : Type 0 where
  pub space : ℕ
  pub is_space : IsSpaceFor file ds g name space
  pub short : v (channel_at (bounded_net file.shared ds g gamma) space).target < slice_index gamma (channel_at (bounded_net file.shared ds g gamma) space).target
  pub fed : CanFire (net_of g gamma false) v (channel_at (bounded_net file.shared ds g gamma) space).target
  pub full : Needs (channel_at (bounded_net file.shared ds g gamma) space)
      (v (channel_at (bounded_net file.shared ds g gamma) space).target) (v (channel_at (bounded_net file.shared ds g gamma) space).source)

-- a scenario ends in counts that block it, at which free space of the channel of this name holds up an actor
pub record HoldsUp (file : ScenarioFile) (ds : List (Option ℕ)) (row : ScenarioRow) (name : List ℕ) : Type 0 where
  pub gamma : List ℕ
  pub gives : IsRepetitionOf row.graph gamma
  pub counts : ℕ → ℕ
  pub ends : IsEnd (bounded_net file.shared ds row.graph gamma) counts
  pub blocks : Blocks (bounded_net file.shared ds row.graph gamma) counts
  pub held : IsHeldUp file ds row.graph gamma counts name

-- an edge of the timed graph of a file is an entry of this scenario's matrix, in the row of token q and the column of token p
pub record IsEntryOf (file : ScenarioFile) (tokens : ℕ) (e : Edge) (row : ScenarioRow) (p q : ℕ) : Type 0 where
  pub state : ℕ
  pub at : StateRow
  pub runs : slice_get file.states state ≡ Some at
  pub scenario : slice_get file.scenarios at.scenario ≡ Some row
  pub column : p < tokens
  pub from : e.from ≡ state * tokens + p
  pub next : ℕ
  pub place : ℕ
  pub goes_on : slice_get at.next place ≡ Some next
  pub line : q < tokens
  pub to : e.to ≡ next * tokens + q

-- a way of an edge: of the time that the edge says, in the round of the scenario whose entry it is
pub record IsWayOf (file : ScenarioFile) (ds : List (Option ℕ)) (tokens : ℕ) (e : Edge) (row : ScenarioRow) (channels : List ℕ) : Type 0 where
  pub p : ℕ
  pub q : ℕ
  pub entry : IsEntryOf file tokens e row p q
  pub gamma : List ℕ
  pub gives : IsRepetitionOf row.graph gamma
  pub way : IsWay (bounded_net file.shared ds row.graph gamma) (first_of (bounded_file file ds).shared (bounded_graph file.shared ds row.graph)) p q e.weight channels

-- free space of the channel of this name is taken on a way of an edge of a critical cycle
pub record IsOnWay (file : ScenarioFile) (ds : List (Option ℕ)) (graph : TimedGraph) (name : List ℕ) : Type 0 where
  pub l : ℕ
  pub w : ℕ
  pub worst : IsWorst (bounded_file file ds) l w
  pub cycle : List ℕ
  pub critical : IsCritical graph l w cycle
  pub number : ℕ
  pub on : Contains cycle number
  pub edge : Edge
  pub is : slice_get graph.edges number ≡ Some edge
  pub row : ScenarioRow
  pub channels : List ℕ
  pub way : IsWayOf file ds graph.tokens edge row channels
  pub space : ℕ
  pub taken : Contains channels space
  pub is_space : IsSpaceFor file ds row.graph name space

-- shared channel c is in the guide of a distribution: its free space holds up the first scenario that is blocked; or none is, and
-- it is taken on a way of an edge of a critical cycle
pub data IsInGuide (file : ScenarioFile) (ds : List (Option ℕ)) (c : ℕ) : Type 0 where
  blocked : (row : SharedRow) (place : ℕ) (s : ScenarioRow) → slice_get file.shared c ≡ Some row → slice_get file.scenarios place ≡ Some s →
      ((t : ℕ) (r : ScenarioRow) → t < place → slice_get file.scenarios t ≡ Some r → RunsOn file ds r) → HoldsUp file ds s row.name → IsInGuide file ds c
  runs : (row : SharedRow) (graph : TimedGraph) → slice_get file.shared c ≡ Some row → AllRun file ds → IsTimedGraph (bounded_file file ds) graph →
      IsOnWay file ds graph row.name → IsInGuide file ds c

-- the corner, if it is within the limit, and with each distribution those that have a step more room on a channel of its guide
pub data IsReachable (file : ScenarioFile) (limit : ℕ) : List (Option ℕ) → Type 0 where
  corner : (ds : List (Option ℕ)) → IsCorner (shared_channels file) ds → storage_of (shared_channels file) ds ≤ limit → IsReachable file limit ds
  next : (ds : List (Option ℕ)) (c : ℕ) → IsReachable file limit ds → IsInGuide file ds c → storage_of (shared_channels file) (stepped (shared_channels file) ds c) ≤ limit →
      IsReachable file limit (stepped (shared_channels file) ds c)
