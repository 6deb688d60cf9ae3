use Rattle.std.proofs.Common.{◌≡◌, ◌++◌, drop}
use Rattle.gen_graph.specs.NodeTexts.{escaped}
use Rattle.gen_graph.proofs.nodes.put_escaped.Given as goal

-- what is written and what is left of the value make the whole
abbrev pub invariant-loop-byte : goal.invariant-loop-byte
invariant-loop-byte l = l.text.items ++ escaped (drop l.byte-index l.byte-items) ≡ l.initial.text.items ++ escaped l.fn.value
