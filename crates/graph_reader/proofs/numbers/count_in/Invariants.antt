use Rattle.std.proofs.Common.{◌≡◌, ◌+◌, ◌≤◌, drop, min}
use Rattle.graph_reader.specs.NumberTexts.{count_in}
use Rattle.graph_reader.proofs.numbers.count_in.Given as goal

abbrev pub invariant-loop-item : goal.invariant-loop-item
invariant-loop-item l = record {
  few : l.count ≤ 4097;
  same : min (l.count + count_in (drop l.item-index l.items)) 4097 ≡ min (count_in l.items) 4097;
}
