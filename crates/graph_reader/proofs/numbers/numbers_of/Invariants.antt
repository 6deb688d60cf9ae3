use Rattle.std.proofs.Common.{◌≡◌, take}
use Rattle.graph_reader.specs.NumberTexts.{numbers_of}
use Rattle.graph_reader.proofs.numbers.numbers_of.Given as goal

abbrev pub invariant-loop-item : goal.invariant-loop-item
invariant-loop-item l = l.list ≡ numbers_of (take l.item-index l.items)
