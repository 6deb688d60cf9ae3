use Rattle.std.proofs.Common.{◌≡◌, ◌++◌, drop}
use Rattle.file_text.specs.Node.{nodes}
use Rattle.gen_graph.specs.NodeTexts.{elements_text}
use Rattle.gen_graph.specs.GraphTrees.{ports_from}
use Rattle.gen_graph.proofs.rows.all_ports.Given as goal

-- the ports so far and those on the channels that are left are all
abbrev pub invariant-loop-i : goal.invariant-loop-i
invariant-loop-i l = l.text.items ++ elements_text (nodes (ports_from l.fn.actor l.i (drop l.i l.channels))) ≡ elements_text (nodes (ports_from l.fn.actor 0 l.fn.channels))
