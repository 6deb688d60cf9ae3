-- The shared channels that an evaluation shows.
use Rattle.std.specs.Prelude.{◌≡◌, ℕ, suc, ◌<◌, ◌/◌, ◌%◌, ◌⊎◌, ◌↔◌, All, Contains, Bool, true, false, Option, None, Some, List, [], ◌∷◌, length, slice_get, slice_index, slice_index_or}
use Rattle.sd_base.specs.declared.tables.GraphFile.{GraphFile}
use Rattle.sd_base.specs.declared.tables.ScenarioFile.{ScenarioFile}
use Rattle.sd_base.specs.declared.tables.ScenarioRow.{ScenarioRow}
use Rattle.sd_base.specs.declared.tables.SharedRow.{SharedRow}
use Rattle.sd_base.specs.declared.tables.StateRow.{StateRow}
use Rattle.sd_base.specs.Net.{Net, channel_at}
use Rattle.sd_base.specs.Schedules.{Needs}
use Rattle.sd_base.specs.Untimed.{CanFire, IsEnd, IsLive}
use Rattle.storage.specs.Distributions.{capacity_at}
use Rattle.token_matrix.specs.Stamps.{first_of}
use Rattle.automaton.specs.declared.graph.Edge.{Edge}
use Rattle.automaton.specs.declared.graph.TimedGraph.{TimedGraph}
use Rattle.entry_ways.specs.declared.marking.EntryPlace.{EntryPlace}
use Rattle.entry_ways.specs.WayMarks.{HasWay, IsLongestWay, IsOnSome}
use Rattle.bounded_scenarios.specs.BoundedFiles.{bounded_file, bounded_graph}
use Rattle.bounded_scenarios.specs.StorageRates.{RunsOn, bounded_net}
use Rattle.bounded_scenarios.specs.ScenarioGuides.{IsHeldUp, IsInGuide, IsSpaceFor, IsWayOf}
use Rattle.bounded_scenarios.specs.ShownSpaces.{IsShownBlocked, ShowsWays}
use Rattle.scenario_storage.specs.inside.Ratings.{IsScenarioAt, RunBefore}

-- by shared channel the number of its free space, where it has a capacity; the first one is n
abbrev pub spaces_from : ℕ → List (Option ℕ) → List (Option ℕ)
spaces_from n [] = []
spaces_from n (None ∷ ds) = None ∷ spaces_from n ds
spaces_from n (Some k ∷ ds) = Some n ∷ spaces_from (suc n) ds

-- shared channel c has free space number i
abbrev pub HasSpace : List (Option ℕ) → ℕ → ℕ → Type 0
HasSpace spaces c i = slice_index_or spaces c None ≡ Some i

-- each number of a free space is below n
abbrev pub AreSpacesWithin : ℕ → List (Option ℕ) → Type 0
AreSpacesWithin n spaces = (c i : ℕ) → HasSpace spaces c i → i < n

-- after v firings the actor that takes free space i is below its round and lacks no token of the net without spaces, but space
pub record WaitsFor (net bounded : Net) (v : ℕ → ℕ) (i : ℕ) : Type 0 where
  pub short : v (channel_at bounded i).target < slice_index net.round (channel_at bounded i).target
  pub fed : CanFire net v (channel_at bounded i).target
  pub full : Needs (channel_at bounded i) (v (channel_at bounded i).target) (v (channel_at bounded i).source)

-- so it is with the free space of shared channel c
abbrev pub IsWaitedFor : Net → Net → List (Option ℕ) → (ℕ → ℕ) → ℕ → Type 0
IsWaitedFor net bounded spaces v c = (i : ℕ) × HasSpace spaces c i × WaitsFor net bounded v i

-- channel c is in the guide of a distribution, and has a capacity
abbrev pub IsGuided : ScenarioFile → List (Option ℕ) → ℕ → Type 0
IsGuided file ds c = IsInGuide file ds c × ((k : ℕ) × (capacity_at ds c ≡ Some k))

-- after v firings of a scenario, free space of shared channel c holds up an actor
abbrev pub IsHeldUpOn : ScenarioFile → List (Option ℕ) → GraphFile → List ℕ → (ℕ → ℕ) → ℕ → Type 0
IsHeldUpOn file ds g gamma v c = (row : SharedRow) × (slice_get file.shared c ≡ Some row) × IsHeldUp file ds g gamma v row.name × ((k : ℕ) × (capacity_at ds c ≡ Some k))

-- the channels are those whose free space holds up an actor where the first scenario ends that can't complete its round
pub record AreShownBlocked (file : ScenarioFile) (ds : List (Option ℕ)) (shown : List ℕ) : Type 0 where
  pub shows : IsShownBlocked file ds shown
  pub first : RunBefore file ds shows.place
  pub ends : IsEnd (bounded_net file.shared ds shows.row.graph shows.gamma) shows.counts
  pub held : (c : ℕ) → Contains shown c → IsHeldUpOn file ds shows.row.graph shows.gamma shows.counts c
  pub stops : ¬ RunsOn file ds shows.row

-- what stands for a state past the last one
abbrev pub no_state : StateRow
no_state = record { name = []; scenario = 0; next = [] }

-- the scenario whose matrix gives an edge
abbrev pub scenario_at : List StateRow → ℕ → Edge → ℕ
scenario_at states tokens e = (slice_index_or states (e.from / tokens) no_state).scenario

-- the entry that an edge is
abbrev pub place_of : ℕ → Edge → EntryPlace
place_of tokens e = record { column = e.from % tokens; row = e.to % tokens }

-- an entry is that of an edge of a cycle, by the matrix of scenario s
pub record IsEntryIn (states : List StateRow) (graph : TimedGraph) (cycle : List ℕ) (s : ℕ) (x : EntryPlace) : Type 0 where
  pub number : ℕ
  pub on : Contains cycle number
  pub edge : Edge
  pub is : slice_get graph.edges number ≡ Some edge
  pub scenario : scenario_at states graph.tokens edge ≡ s
  pub place : place_of graph.tokens edge ≡ x

-- each edge begins at a node of a state
abbrev pub BeginAtStates : List StateRow → TimedGraph → Type 0
BeginAtStates states graph = (n : ℕ) (e : Edge) → slice_get graph.edges n ≡ Some e → e.from / graph.tokens < length states

-- scenario s can complete its round, and each entry has a way
pub record HaveWays (file : ScenarioFile) (gammas : List (List ℕ)) (ds : List (Option ℕ)) (s : ℕ) (entries : List EntryPlace) : Type 0 where
  pub scenario : IsScenarioAt file gammas s
  pub live : IsLive (bounded_net file.shared ds scenario.row.graph scenario.gamma)
  pub ways : All (HasWay (bounded_net file.shared ds scenario.row.graph scenario.gamma) (first_of (bounded_file file ds).shared (bounded_graph file.shared ds scenario.row.graph))) entries

-- on some of the ways the free space of shared channel c is taken
abbrev pub IsSpaceOn : List (Option ℕ) → List (List ℕ) → ℕ → Type 0
IsSpaceOn spaces ways c = (i : ℕ) × HasSpace spaces c i × IsOnSome ways i

-- of each entry one longest way of scenario s: marked is what was marked before, and the shared channels whose free space is taken
-- on these ways
pub record AreSpaceMarks (file : ScenarioFile) (gammas : List (List ℕ)) (ds : List (Option ℕ)) (s : ℕ) (entries : List EntryPlace) (old new : List Bool) : Type 0 where
  pub scenario : IsScenarioAt file gammas s
  pub ways : List (List ℕ)
  pub each : length ways ≡ length entries
  pub longest : (k : ℕ) (x : EntryPlace) → slice_get entries k ≡ Some x →
      IsLongestWay (bounded_net file.shared ds scenario.row.graph scenario.gamma) (first_of (bounded_file file ds).shared (bounded_graph file.shared ds scenario.row.graph)) x.column x.row (slice_index_or ways k [])
  pub long : length new ≡ length old
  pub marked : (c : ℕ) → c < length old → (slice_index_or new c false ≡ true) ↔ ((slice_index_or old c false ≡ true) ⊎ IsSpaceOn (spaces_from (length scenario.row.graph.channels) ds) ways c)

-- free space of shared channel c is taken on a way of an edge of a cycle
pub record IsTakenOn (file : ScenarioFile) (ds : List (Option ℕ)) (graph : TimedGraph) (cycle : List ℕ) (c : ℕ) : Type 0 where
  pub shared : SharedRow
  pub at : slice_get file.shared c ≡ Some shared
  pub room : ℕ
  pub capped : capacity_at ds c ≡ Some room
  pub number : ℕ
  pub on : Contains cycle number
  pub edge : Edge
  pub is : slice_get graph.edges number ≡ Some edge
  pub row : ScenarioRow
  pub channels : List ℕ
  pub way : IsWayOf file ds graph.tokens edge row channels
  pub space : ℕ
  pub taken : Contains channels space
  pub is_space : IsSpaceFor file ds row.graph shared.name space

-- the channels are taken on ways of edges of a cycle, and show one way of each edge
pub record AreShownLive (file : ScenarioFile) (ds : List (Option ℕ)) (graph : TimedGraph) (cycle shown : List ℕ) : Type 0 where
  pub taken : (c : ℕ) → Contains shown c → IsTakenOn file ds graph cycle c
  pub shows : ShowsWays file ds graph cycle shown
