-- Levels of scores: the best of the walks of at most so many edges.
use Rattle.std.specs.Prelude.{◌≡◌, ℕ, ◌+◌, ◌*◌, ◌≤◌, ◌<◌, ◌⊎◌, List, slice_get, slice_set, slice_index_or, Option, Some, None}
use Rattle.sd_base.specs.declared.limits.TheConstants.{NODES, ROUND, TIME}
use Rattle.automaton.specs.declared.graph.Edge.{Edge}
use Rattle.automaton.specs.declared.graph.TimedGraph.{TimedGraph}
use Rattle.automaton.specs.CriticalCycles.{IsStart}
use Rattle.scenario_rate.specs.declared.levels.Cell.{Cell}

-- the greatest time of a cycle on which no node stands twice
abbrev pub LONGEST : ℕ
LONGEST = NODES * (TIME * ROUND)

-- no score comes near it: a level adds the time of a round times the rounds of a cycle at most, and there is no level past the nodes
abbrev pub HIGHEST : ℕ
HIGHEST = 1000000000000000000000000

abbrev pub cell_at : List (Option Cell) → ℕ → Option Cell
cell_at row v = slice_index_or row v None

abbrev pub edge_in : Option Cell → Option ℕ
edge_in None = None
edge_in (Some c) = c.edge

-- a cell is empty or has a score below s
abbrev pub IsBelow : Option Cell → ℕ → Type 0
IsBelow None s = Unit {0}
IsBelow (Some c) s = c.score < s

-- a cell has a score of at least s
abbrev pub IsAtLeast : Option Cell → ℕ → Type 0
IsAtLeast None s = ⊥
IsAtLeast (Some c) s = s ≤ c.score

-- no score is above b
abbrev pub AreSmall : ℕ → (ℕ → Option Cell) → Type 0
AreSmall b d = (v : ℕ) (c : Cell) → d v ≡ Some c → c.score ≤ b

-- the cell of node v in the row of level 0
abbrev pub IsFirstCell : TimedGraph → ℕ → Option Cell → Type 0
IsFirstCell graph v None = IsStart graph v → ⊥
IsFirstCell graph v (Some c) = IsStart graph v × (c.score ≡ 0)

-- a cell whose score is w more, and that no edge raised
abbrev pub aged_of : ℕ → Option Cell → Option Cell
aged_of w None = None
aged_of w (Some c) = Some (record { score = c.score + w; edge = None })

-- the row of level 0
pub record IsFirst (graph : TimedGraph) (d : ℕ → Option Cell) : Type 0 where
  pub there : (v : ℕ) → IsStart graph v → (c : Cell) × (d v ≡ Some c)
  pub start : (v : ℕ) (c : Cell) → d v ≡ Some c → IsStart graph v
  pub zero_score : (v : ℕ) (c : Cell) → d v ≡ Some c → c.score ≡ 0

-- each score is w more, and no edge raised it
abbrev pub IsAged : ℕ → (ℕ → Option Cell) → (ℕ → Option Cell) → Type 0
IsAged w d d' = (v : ℕ) → d' v ≡ aged_of w (d v)

-- edge k raised a list of cells, if what the cell at its start gives is more
abbrev pub IsBrought : ℕ → ℕ → Edge → Option Cell → List (Option Cell) → List (Option Cell) → Type 0
IsBrought l k e None row row' = row' ≡ row
IsBrought l k e (Some c) row row' =
    (IsBelow (cell_at row e.to) (c.score + e.weight * l) × (row' ≡ slice_set row e.to (Some (record { score = c.score + e.weight * l; edge = Some k }))))
    ⊎ (IsAtLeast (cell_at row e.to) (c.score + e.weight * l) × (row' ≡ row))

-- d' is the next level after d over the edges below n: what is kept is worth w more, each edge is honoured, and what is more came over an edge
pub record IsRaised (es : List Edge) (n l w : ℕ) (d d' : ℕ → Option Cell) : Type 0 where
  pub kept : (v : ℕ) (c : Cell) → d v ≡ Some c → (c' : Cell) × (d' v ≡ Some c') × (c.score + w ≤ c'.score)
  pub over : (k : ℕ) (e : Edge) (c : Cell) → k < n → slice_get es k ≡ Some e → d e.from ≡ Some c
      → (c' : Cell) × (d' e.to ≡ Some c') × (c.score + e.weight * l ≤ c'.score)
  pub stayed : (v : ℕ) (c' : Cell) → d' v ≡ Some c' → c'.edge ≡ None → (c : Cell) × (d v ≡ Some c) × (c'.score ≡ c.score + w)
  pub came : (v : ℕ) (c' : Cell) (k : ℕ) → d' v ≡ Some c' → c'.edge ≡ Some k
      → (e : Edge) × (c : Cell) × (slice_get es k ≡ Some e) × (e.to ≡ v) × (d e.from ≡ Some c) × (c'.score ≡ c.score + e.weight * l)
  pub more : (v : ℕ) (c' c : Cell) (k : ℕ) → d' v ≡ Some c' → c'.edge ≡ Some k → d v ≡ Some c → c.score + w < c'.score

-- what an edge brings from a cell that no edge raised is at its end, once that is worth w more
abbrev pub AreHonoured : List Edge → ℕ → ℕ → (ℕ → Option Cell) → Type 0
AreHonoured es l w d = (k : ℕ) (e : Edge) (c : Cell) → slice_get es k ≡ Some e → d e.from ≡ Some c → c.edge ≡ None
    → (t : Cell) × (d e.to ≡ Some t) × (c.score + e.weight * l ≤ t.score + w)

-- no edge raised a node
abbrev pub AreSettled : (ℕ → Option Cell) → Type 0
AreSettled d = (v : ℕ) (c : Cell) → d v ≡ Some c → c.edge ≡ None

-- no edge raised a cell, or its score is below a number
abbrev pub IsNoHigher : Option Cell → ℕ → Type 0
IsNoHigher None s = Unit {0}
IsNoHigher (Some c) s = (c.edge ≡ None) ⊎ (c.score < s)

-- an edge raised a cell
abbrev pub WasRaised : Option Cell → Type 0
WasRaised None = ⊥
WasRaised (Some c) = (k : ℕ) × (c.edge ≡ Some k)
