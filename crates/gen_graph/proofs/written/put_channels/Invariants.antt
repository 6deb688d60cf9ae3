use Rattle.std.proofs.Common.{◌≡◌, ◌++◌, drop}
use Rattle.file_text.specs.Node.{nodes}
use Rattle.gen_graph.specs.NodeTexts.{elements_text}
use Rattle.gen_graph.specs.GraphTrees.{channel_nodes}
use Rattle.gen_graph.proofs.written.put_channels.Given as goal

-- what is written and what is left make the whole
abbrev pub invariant-loop-i : goal.invariant-loop-i
invariant-loop-i l = l.text.items ++ elements_text (nodes (channel_nodes l.fn.actors l.i (drop l.i l.channels))) ≡ l.initial.text.items ++ elements_text (nodes (channel_nodes l.fn.actors 0 l.fn.channels))
