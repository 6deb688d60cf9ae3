use Rattle.std.proofs.Common.{◌≡◌, ◌∷◌, map, take}
use Rattle.std.specs.Prelude.{slice_index, slice_index_or}
use Rattle.cert_maker.specs.WorstCertificates.{entered, no_edge, node_of}
use Rattle.cert_maker.proofs.worst_rates.nodes_on.Given as goal

abbrev pub invariant-loop-k : goal.invariant-loop-k
invariant-loop-k l = l.nodes.items ≡ node_of l.graph.tokens (slice_index_or l.graph.edges (slice_index l.cycle 0) no_edge).from ∷ map (entered l.graph) (take l.k-index l.cycle)
