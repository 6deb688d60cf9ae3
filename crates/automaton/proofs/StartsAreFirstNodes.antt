-- The nodes of the initial state are as many as tokens, one after another.
use Rattle.std.proofs.Common.{ℕ, ◌+◌, ◌*◌, ◌-◌, ◌≤◌, ◌<◌, ◌↔◌, IsTrue, nat_lt, arith}
use Rattle.std.proofs.lemmas.Bool.{lt-ltb, ltb-true}
use Rattle.automaton.specs.declared.graph.TimedGraph.{TimedGraph}
use Rattle.automaton.specs.CriticalCycles.{IsStart}

pub start-decides : (graph : TimedGraph) (v : ℕ) → graph.initial * graph.tokens ≤ v → IsTrue (nat_lt v (graph.initial * graph.tokens + graph.tokens)) ↔ IsStart graph v
start-decides graph v low = (
  (λ yes. let below : v < graph.initial * graph.tokens + graph.tokens = ltb-true v (graph.initial * graph.tokens + graph.tokens) yes in
      (v - graph.initial * graph.tokens, omega (arith, low, below), omega (arith, low, below))),
  (λ (i, less, is). lt-ltb v (graph.initial * graph.tokens + graph.tokens) (omega (arith, less, is))),
)
