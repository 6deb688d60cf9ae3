-- Weights of edges by the nodes that they join.
use Rattle.std.specs.Prelude.{◌≡◌, ℕ, List, Option}
use Rattle.std.specs.BTreeMap.{get}
use Rattle.automaton.specs.declared.graph.Edge.{Edge}
use Rattle.cert_checker.specs.declared.weights.Weights.{Weights}
use Rattle.cert_checker.specs.ListedNodes.{weight_between}
use Rattle.cert_checker.specs.inside.Spaces.{pair_cmp}

-- the weight that is kept for two nodes, if there is one
abbrev pub weight_in : Weights → ℕ → ℕ → Option ℕ
weight_in weights from to = get pair_cmp weights.between (from, to)

-- so it is that of the first edge between them
abbrev pub AreWeights : List Edge → Weights → Type 0
AreWeights edges weights = (from to : ℕ) → weight_in weights from to ≡ weight_between edges from to
