use Rattle.std.proofs.Common.{◌≡◌, take, map}
use Rattle.covers.proofs.search.vectors_of.Given as goal

abbrev pub invariant-loop-node : goal.invariant-loop-node
invariant-loop-node l = l.vectors ≡ map (λ n. n.lo.items) (take l.node-index l.nodes)
