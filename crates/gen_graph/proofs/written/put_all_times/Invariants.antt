use Rattle.std.proofs.Common.{◌≡◌, ◌++◌, drop}
use Rattle.file_text.specs.Node.{nodes}
use Rattle.gen_graph.specs.NodeTexts.{elements_text}
use Rattle.gen_graph.specs.GraphTrees.{times_nodes}
use Rattle.gen_graph.proofs.written.put_all_times.Given as goal

-- what is written and what is left make the whole
abbrev pub invariant-loop-actor : goal.invariant-loop-actor
invariant-loop-actor l = l.text.items ++ elements_text (nodes (times_nodes (drop l.actor-index l.actors))) ≡ l.initial.text.items ++ elements_text (nodes (times_nodes l.fn.actors))
