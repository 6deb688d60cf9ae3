-- Searches by levels: the rows, the walks that they stand for, and where a walk comes back to a node.
use Rattle.std.specs.Prelude.{◌≡◌, ◌≢◌, ℕ, ◌+◌, ◌-◌, ◌*◌, ◌≤◌, ◌<◌, ℤ, pos, ◌-ℤ◌, List, [], length, slice_get, slice_index_or, Option, Some, None}
use Rattle.sd_base.specs.declared.limits.TheConstants.{NODES}
use Rattle.automaton.specs.declared.graph.Edge.{Edge}
use Rattle.automaton.specs.declared.graph.TimedGraph.{TimedGraph}
use Rattle.automaton.specs.CriticalCycles.{IsPath, IsStart, weights}
use Rattle.scenario_rate.specs.declared.levels.Cell.{Cell}
use Rattle.scenario_rate.specs.declared.search.Outcome.{Outcome}
use Rattle.scenario_rate.specs.declared.search.Outcome.TheVariants.{Settled, Raised}
use Rattle.automaton.specs.SoundGraphs.{node_count}
use Rattle.scenario_rate.specs.inside.Levels.{HIGHEST, LONGEST, cell_at, IsFirst, IsRaised, AreSettled, AreSmall}

-- a walk of at most k edges from a node of the initial state to v has this score at level k
abbrev pub IsScored : TimedGraph → ℕ → ℕ → ℕ → List ℕ → ℕ → ℕ → Type 0
IsScored graph l w k walk v score =
    (s : ℕ) × (m : ℕ) × IsStart graph s × IsPath graph.edges s walk v × (length walk + m ≡ k) × (score ≡ weights graph.edges walk * l + w * m)

-- the rows are those of the levels from 0 on
pub record AreLevels (graph : TimedGraph) (l w : ℕ) (rows : List (List (Option Cell))) : Type 0 where
  pub first : (row : List (Option Cell)) → slice_get rows 0 ≡ Some row → IsFirst graph (cell_at row)
  pub more : (k : ℕ) (row next : List (Option Cell)) → slice_get rows k ≡ Some row → slice_get rows (k + 1) ≡ Some next
      → IsRaised graph.edges (length graph.edges) l w (cell_at row) (cell_at next)
  pub wide : (k : ℕ) (row : List (Option Cell)) → slice_get rows k ≡ Some row → length row ≡ node_count graph

-- no edge raises a node from level k on, which is the last one
pub record IsLast (graph : TimedGraph) (l w : ℕ) (rows : List (List (Option Cell))) (k : ℕ) (row : List (Option Cell)) : Type 0 where
  pub count : length rows ≡ k + 1
  pub at : slice_get rows k ≡ Some row
  pub next : List (Option Cell)
  pub raised : IsRaised graph.edges (length graph.edges) l w (cell_at row) (cell_at next)
  pub settled : AreSettled (cell_at next)
  pub small : AreSmall HIGHEST (cell_at row)

-- an edge raised node v at level k
abbrev pub IsRaisedAt : List (List (Option Cell)) → ℕ → ℕ → Type 0
IsRaisedAt rows k v = (row : List (Option Cell)) × (c : Cell) × (number : ℕ) × (slice_get rows k ≡ Some row) × (cell_at row v ≡ Some c) × (c.edge ≡ Some number)

-- the potential that a score stands for, where b is the time of the levels
abbrev pub potential_of : ℕ → Option Cell → Option ℤ
potential_of b None = None
potential_of b (Some c) = Some (pos c.score -ℤ pos b)

-- ---- where a walk comes back

abbrev pub from_in : Option Edge → ℕ
from_in None = 0
from_in (Some e) = e.from

abbrev pub from_of : List Edge → ℕ → Option ℕ → ℕ
from_of es v None = v
from_of es v (Some k) = from_in (slice_get es k)

-- the node after i edges of a walk that ends at v
abbrev pub node_after : List Edge → List ℕ → ℕ → ℕ → ℕ
node_after es ks v i = from_of es v (slice_get ks i)

-- no score of the last row is above what so many levels add at most
abbrev pub IsLastSmall : List (List (Option Cell)) → Type 0
IsLastSmall rows = AreSmall ((length rows - 1) * LONGEST) (cell_at (slice_index_or rows (length rows - 1) []))

-- what a search at the rate l/w over so many levels comes to
abbrev pub IsOutcome : TimedGraph → ℕ → ℕ → ℕ → Outcome → Type 0
IsOutcome graph l w most (Settled levels) = (levels.rounds ≡ l) × (levels.time ≡ w) × AreLevels graph l w levels.rows.items
    × ((k : ℕ) × (row : List (Option Cell)) × (k ≤ NODES) × IsLast graph l w levels.rows.items k row)
IsOutcome graph l w most (Raised levels v) = (levels.rounds ≡ l) × (levels.time ≡ w) × AreLevels graph l w levels.rows.items
    × (length levels.rows.items ≡ most + 1) × (v < node_count graph) × IsRaisedAt levels.rows.items most v × IsLastSmall levels.rows.items

-- the cell of a node at a level
abbrev pub cell_of : List (List (Option Cell)) → ℕ → ℕ → Option Cell
cell_of rows k v = cell_at (slice_index_or rows k []) v

-- a node has a score at a level
abbrev pub HasCell : List (List (Option Cell)) → ℕ → ℕ → Type 0
HasCell rows k v = (k < length rows) × (v < length (slice_index_or rows k [])) × ((c : Cell) × (cell_of rows k v ≡ Some c))

-- a walk has the score of a node at a level
abbrev pub IsScoredAt : TimedGraph → ℕ → ℕ → List (List (Option Cell)) → ℕ → List ℕ → ℕ → Type 0
IsScoredAt graph l w rows k walk v = (c : Cell) × (cell_of rows k v ≡ Some c) × IsScored graph l w k walk v c.score

-- each number of a list is that of an edge
abbrev pub AreNumbers : List Edge → List ℕ → Type 0
AreNumbers es ks = (i k : ℕ) → slice_get ks i ≡ Some k → k < length es

-- the nodes at the first n places of a walk differ
abbrev pub DifferBelow : List Edge → List ℕ → ℕ → ℕ → Type 0
DifferBelow es ks v n = (i j : ℕ) → i < j → j < n → node_after es ks v i ≢ node_after es ks v j

-- the last row of a list of levels is settled
abbrev pub IsLastOf : TimedGraph → ℕ → ℕ → List (List (Option Cell)) → Type 0
IsLastOf graph l w rows = (k : ℕ) × (row : List (Option Cell)) × (k ≤ NODES) × IsLast graph l w rows k row
