-- Walks that get heavier than any number, where an edge that takes time leads on from each node.
use Rattle.std.proofs.Common.{◌≡◌, ℕ, zero, suc, ◌+◌, ◌*◌, ◌≤◌, ◌<◌, List, [], ◌∷◌, refl, sym, ap, arith}
use Rattle.std.specs.Prelude.{slice_get}
use Rattle.std.proofs.Math.Nat.{mul-le-mul_right}
use Rattle.automaton.specs.declared.graph.TimedGraph.{TimedGraph}
use Rattle.automaton.specs.CriticalCycles.{IsPath, weight_in, weights}
use Rattle.automaton.specs.SoundGraphs.{Grows, IsSound, node_count}
use Rattle.test_scenarios.specs.Leading.{LeadsFrom}

module _ (graph : TimedGraph) (sound : IsSound graph) (leads : (v : ℕ) → v < node_count graph → LeadsFrom graph.edges v) where
  walk : (n u : ℕ) → u < node_count graph → (v : ℕ) × (ks : List ℕ) × IsPath graph.edges u ks v × (n ≤ weights graph.edges ks)
  walk zero u below = (u, [], refl, omega arith)
  walk (suc n) u below =
      let on = leads u below in
      let further = walk n on.1.to (sound.edges.to on.0 on.1 on.2) in
      let heavy : weight_in (slice_get graph.edges on.0) ≡ on.1.weight = ap weight_in on.2 in
      (further.0, on.0 ∷ further.1, (on.1, on.2, sym on.3, further.2), omega (arith, heavy, on.4, further.3))

  start : graph.initial * graph.tokens + 0 < node_count graph
  start =
      let rows : suc graph.initial * graph.tokens ≤ graph.states * graph.tokens = mul-le-mul_right graph.tokens sound.some_state in
      omega (arith, rows, sound.some_token)

  pub grows : Grows graph
  grows b =
      let w = walk (suc b) (graph.initial * graph.tokens + 0) start in
      (graph.initial * graph.tokens + 0, w.0, w.1, (0, omega (arith, sound.some_token), refl), w.2, omega (arith, w.3))
