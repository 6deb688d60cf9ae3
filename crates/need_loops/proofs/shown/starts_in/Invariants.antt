use Rattle.std.proofs.Common.{◌≡◌, ◌*◌, ◌^◌, ◌≤◌, length, map, sum, take}
use Rattle.need_loops.proofs.shown.starts_in.Given as goal

abbrev pub invariant-loop-row : goal.invariant-loop-row
invariant-loop-row g l = record {
  sum : l.total ≡ sum (take l.row-index (map length l.starts));
  small : l.total ≤ l.row-index * 2 ^ 64;
}
