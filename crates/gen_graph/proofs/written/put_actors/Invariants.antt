use Rattle.std.proofs.Common.{◌≡◌, ◌++◌, drop}
use Rattle.file_text.specs.Node.{nodes}
use Rattle.gen_graph.specs.NodeTexts.{elements_text}
use Rattle.gen_graph.specs.GraphTrees.{actor_nodes}
use Rattle.gen_graph.proofs.written.put_actors.Given as goal

-- what is written and what is left make the whole
abbrev pub invariant-loop-a : goal.invariant-loop-a
invariant-loop-a l = l.text.items ++ elements_text (nodes (actor_nodes l.fn.channels l.a (drop l.a l.actors))) ≡ l.initial.text.items ++ elements_text (nodes (actor_nodes l.fn.channels 0 l.fn.actors))
