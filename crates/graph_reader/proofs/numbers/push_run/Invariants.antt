use Rattle.std.proofs.Common.{◌≡◌, ◌++◌, replicate}
use Rattle.graph_reader.proofs.numbers.push_run.Given as goal

abbrev pub invariant-loop-i : goal.invariant-loop-i
invariant-loop-i l = l.list ≡ l.initial.list ++ replicate l._i l.item.value
