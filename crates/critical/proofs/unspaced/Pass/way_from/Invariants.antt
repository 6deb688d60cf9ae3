use Rattle.std.proofs.Common.{ℕ, ◌+◌, ◌*◌, length}
use Rattle.critical.specs.inside.Trails.{class_at}
use Rattle.critical.specs.inside.Searches.{IsMarked, IsSearch, unmarked}
use Rattle.critical.proofs.unspaced.Pass.way_from.Given as goal

abbrev pub invariant-turns : goal.invariant-turns
invariant-turns g l = record {
  so_far : IsSearch (g.F.Firing.net l.self.wired.now.net.now) l.self.table.now l.met.items l.marks;
  kept : (c : ℕ) → IsMarked l.fn.marks c → IsMarked l.marks c;
  first : IsMarked l.marks (class_at l.self.table.now l.fn.first);
}

abbrev pub decreases-turns : goal.decreases-turns
decreases-turns g l = 2 * unmarked l.marks + length l.met.items
