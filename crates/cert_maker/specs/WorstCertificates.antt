-- What is put for a worst rate.
use Rattle.std.specs.Prelude.{◌≡◌, ℕ, ℤ, suc, ◌/◌, ◌%◌, List, [], ◌∷◌, Option, Some, None, map, slice_index_or}
use Rattle.automaton.specs.declared.graph.Edge.{Edge}
use Rattle.automaton.specs.declared.graph.TimedGraph.{TimedGraph}
use Rattle.automaton.specs.CriticalCycles.{weights}
use Rattle.scenario_rate.specs.declared.answer.Worst.{Worst}
use Rattle.cert_text.specs.declared.certificates.ScenarioCertificate.{ScenarioCertificate}

-- the node of a number: its state and its token
abbrev pub node_of : ℕ → ℕ → ℕ × ℕ
node_of tokens v = (v / tokens, v % tokens)

abbrev pub no_edge : Edge
no_edge = record { from = 0; to = 0; weight = 0 }

-- the node that the edge of a number enters
abbrev pub entered : TimedGraph → ℕ → ℕ × ℕ
entered graph k = node_of graph.tokens (slice_index_or graph.edges k no_edge).to

-- the nodes of a cycle, the last of which is the first again
abbrev pub nodes_on : TimedGraph → List ℕ → List (ℕ × ℕ)
nodes_on graph [] = []
nodes_on graph (k ∷ ks) = node_of graph.tokens (slice_index_or graph.edges k no_edge).from ∷ map (entered graph) (k ∷ ks)

-- the nodes from v on that have a potential, each with it
abbrev pub potentials_from : ℕ → ℕ → List (Option ℤ) → List (ℕ × ℕ × ℤ)
potentials_from tokens v [] = []
potentials_from tokens v (None ∷ xs) = potentials_from tokens (suc v) xs
potentials_from tokens v (Some x ∷ xs) = (v / tokens, v % tokens, x) ∷ potentials_from tokens (suc v) xs

-- a certificate has the rate, the cycle and the potentials of a worst rate
pub record IsWorstCertificate (graph : TimedGraph) (worst : Worst) (c : ScenarioCertificate) : Type 0 where
  pub rate : c.rate ≡ (worst.rate.num, worst.rate.den)
  pub time : c.time ≡ weights graph.edges worst.cycle
  pub nodes : c.nodes ≡ nodes_on graph worst.cycle
  pub potentials : c.potentials ≡ potentials_from graph.tokens 0 worst.potentials
