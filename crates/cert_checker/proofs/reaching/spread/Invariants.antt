use Rattle.std.proofs.Common.{◌≡◌, ◌*◌, ◌≤◌, ◌<◌, false, length}
use Rattle.std.specs.Prelude.{IsTrue}
use Rattle.cert_checker.specs.inside.Marks.{AreKept, AreSoundMarks, HasStarts, unmarked}
use Rattle.cert_checker.proofs.reaching.spread.Given as goal

abbrev pub invariant-loop-number : goal.invariant-loop-number
invariant-loop-number l = record {
  size : length l.marks.items ≡ l.graph.states * l.graph.tokens;
  reached : AreSoundMarks l.graph l.initial.marks.items → AreSoundMarks l.graph l.marks.items;
  starts : HasStarts l.graph l.initial.marks.items → HasStarts l.graph l.marks.items;
  few : unmarked l.marks.items ≤ unmarked l.initial.marks.items;
  fewer : IsTrue l.spreads → unmarked l.marks.items < unmarked l.initial.marks.items;
  kept : l.spreads ≡ false → AreKept l.graph.edges l.number l.marks.items;
}
