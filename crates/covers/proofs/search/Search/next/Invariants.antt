use Rattle.covers.specs.Searches.{IsSame}
use Rattle.covers.specs.inside.Keeping.{IsKept, known}
use Rattle.covers.specs.inside.Rooms.{weight_of}
use Rattle.covers.proofs.search.Search.next.Given as goal

abbrev pub invariant-loop-node : goal.invariant-loop-node
invariant-loop-node l = record { kept : IsKept (known l.initial.self) l.initial.self.open.keys l.self.open.keys; same : IsSame l.initial.self l.self }

abbrev pub decreases-loop-node : goal.decreases-loop-node
decreases-loop-node l = weight_of l.self.lattice.limit l.self.open.keys
