-- Timed graphs whose numbers are within their limits.
use Rattle.std.specs.Prelude.{◌≡◌, ℕ, ◌*◌, ◌≤◌, ◌<◌, List, length, slice_get, Some}
use Rattle.sd_base.specs.declared.limits.TheConstants.{EDGES, NODES, ROUND, TIME}
use Rattle.automaton.specs.declared.graph.Edge.{Edge}
use Rattle.automaton.specs.declared.graph.TimedGraph.{TimedGraph}
use Rattle.automaton.specs.CriticalCycles.{IsStart, IsPath, weights}

-- how many nodes it has
abbrev pub node_count : TimedGraph → ℕ
node_count graph = graph.states * graph.tokens

-- edges between the first n nodes that are no heavier than the time of the greatest round
pub record AreInside (es : List Edge) (n : ℕ) : Type 0 where
  pub few : length es ≤ EDGES
  pub from : (k : ℕ) (e : Edge) → slice_get es k ≡ Some e → e.from < n
  pub to : (k : ℕ) (e : Edge) → slice_get es k ≡ Some e → e.to < n
  pub light : (k : ℕ) (e : Edge) → slice_get es k ≡ Some e → e.weight ≤ TIME * ROUND

-- the limits on a timed graph, and its ends are nodes
pub record IsSound (graph : TimedGraph) : Type 0 where
  pub some_token : 1 ≤ graph.tokens
  pub some_state : graph.initial < graph.states
  pub nodes : graph.states * graph.tokens ≤ NODES
  pub edges : AreInside graph.edges (graph.states * graph.tokens)

-- walks from the nodes of the initial state get heavier than any number
abbrev pub Grows : TimedGraph → Type 0
Grows graph = (b : ℕ) → (u : ℕ) × (v : ℕ) × (ks : List ℕ) × IsStart graph u × IsPath graph.edges u ks v × (b < weights graph.edges ks)
