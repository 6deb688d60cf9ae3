use Rattle.std.proofs.Common.{◌≡◌, take}
use Rattle.covers.specs.Lattices.{corner_of}
use Rattle.covers.proofs.RootHoldsLattice.{tops_of}
use Rattle.covers.proofs.search.root.Given as goal

abbrev pub invariant-loop-axis : goal.invariant-loop-axis
invariant-loop-axis l = record { lo : l.lo.items ≡ corner_of (take l.axis-index l.axis-items); hi : l.hi.items ≡ tops_of l.lattice.limit (take l.axis-index l.axis-items) }
