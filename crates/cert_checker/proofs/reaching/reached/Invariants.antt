use Rattle.std.proofs.Common.{◌≡◌, ◌*◌, false, length}
use Rattle.cert_checker.specs.inside.Marks.{AreKept, AreSoundMarks, HasStarts, left_of}
use Rattle.cert_checker.proofs.reaching.reached.Given as goal

abbrev pub invariant-loop-spreads : goal.invariant-loop-spreads
invariant-loop-spreads l = record {
  size : length l.marks.items ≡ l.graph.states * l.graph.tokens;
  reached : AreSoundMarks l.graph l.marks.items;
  starts : HasStarts l.graph l.marks.items;
  kept : l.spreads ≡ false → AreKept l.graph.edges (length l.graph.edges) l.marks.items;
}

abbrev pub decreases-loop-spreads : goal.decreases-loop-spreads
decreases-loop-spreads l = left_of l.spreads l.marks.items
