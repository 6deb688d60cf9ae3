use Rattle.std.proofs.Common.{◌≡◌, replicate}
use Rattle.graph_reader.proofs.table.repeated.Given as goal

abbrev pub invariant-loop-i : goal.invariant-loop-i
invariant-loop-i l = l.list ≡ replicate l._i l.n
