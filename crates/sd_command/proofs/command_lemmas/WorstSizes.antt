-- The edges of a cycle. One on which no node stands twice is no longer than there are nodes, so its weight is small.
use Rattle.std.proofs.Common.{◌≡◌, ℕ, zero, suc, ◌*◌, ◌<◌, ◌≤◌, All, List, [], ◌∷◌, length, get_or, Some, ⊎_elim, arith}
use Rattle.std.specs.Prelude.{slice_get}
use Rattle.std.proofs.lemmas.Bool.{cases_lt}
use Rattle.std.proofs.lemmas.Option.{slice_get-get_or, slice_get_within}
use Rattle.automaton.specs.declared.graph.Edge.{Edge}
use Rattle.automaton.specs.declared.graph.TimedGraph.{TimedGraph}
use Rattle.automaton.specs.CriticalCycles.{IsPath, weights}
use Rattle.scenario_rate.specs.Answers.{IsApart}
use Rattle.automaton.specs.SoundGraphs.{IsSound}
use Rattle.automaton.proofs.TwoAreTheSame.{pigeons}
use Rattle.scenario_rate.proofs.RaisedWalksLoop.{weights-light}

no-edge : Edge
no-edge = record { from = 0; to = 0; weight = 0 }

-- the edges of a path are edges
pub path-edges : (es : List Edge) (ks : List ℕ) (u v : ℕ) → IsPath es u ks v → All (λ k. k < length es) ks
path-edges es [] u v path i d below = absurd (omega (arith, below))
path-edges es (k ∷ ks) u v path zero d below = slice_get_within es k path.0 path.1
path-edges es (k ∷ ks) u v path (suc i) d below = path-edges es ks path.0.to v path.3 i d (omega arith)

module _ (graph : TimedGraph) (ks : List ℕ) (sound : IsSound graph) (edges : All (λ k. k < length graph.edges) ks) (apart : IsApart graph.edges ks) where
  abbrev nodes : ℕ
  nodes = graph.states * graph.tokens

  -- the edge at a place of the cycle
  abbrev edge : ℕ → Edge
  edge i = get_or graph.edges (get_or ks i 0) no-edge

  at-place : (i : ℕ) → i < length ks → slice_get ks i ≡ Some (get_or ks i 0)
  at-place i below = slice_get-get_or ks i 0 below

  is-edge : (i : ℕ) → i < length ks → slice_get graph.edges (get_or ks i 0) ≡ Some (edge i)
  is-edge i below = slice_get-get_or graph.edges (get_or ks i 0) no-edge (edges i 0 below)

  too-long : nodes < length ks → ⊥
  too-long long = pigeons nodes (λ i. (edge i).from)
      (λ i h. let below : i < length ks = omega (arith, h, long) in sound.edges.from (get_or ks i 0) (edge i) (is-edge i below))
      (λ i j h g same.
      let second : j < length ks = omega (arith, g, long) in
      let first : i < length ks = omega (arith, h, second) in
      let one : i ≡ j = apart i j (get_or ks i 0) (get_or ks j 0) (edge i) (edge j) (at-place i first) (at-place j second) (is-edge i first) (is-edge j second) same in
      omega (arith, h, one))

  pub cycle-light : weights graph.edges ks < 18446744073709551616
  cycle-light =
      let few : length ks ≤ nodes = ⊎_elim (λ (h : nodes < length ks). absurd (too-long h)) (λ (h : length ks ≤ nodes). h) (cases_lt nodes (length ks)) in
      let most : nodes ≤ 1024 = sound.nodes in
      let light : weights graph.edges ks ≤ length ks * 100000000000000 = weights-light graph.edges nodes sound.edges ks in
      omega (arith, few, most, light)
