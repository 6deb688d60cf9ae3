use Rattle.std.proofs.Common.{◌≡◌, ◌+◌, ◌≤◌, ◌++◌, length, drop}
use Rattle.std.specs.Fmt.{decimal}
use Rattle.report.proofs.numbers.write_number.Given as goal

-- the digits that are left and those that are written are the number's
abbrev pub invariant-loop-left : goal.invariant-loop-left
invariant-loop-left l = record {
  before : l.at ≤ l.end;
  place : l.at + length (decimal l.number) ≡ l.end + length (decimal l.left);
  digits : decimal l.left ++ drop l.at l.room ≡ decimal l.number ++ drop l.end l.fn.room;
}

abbrev pub decreases-loop-left : goal.decreases-loop-left
decreases-loop-left l = l.left
