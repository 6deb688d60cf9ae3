use Rattle.std.proofs.Common.{◌≡◌, ◌++◌, drop, map}
use Rattle.file_text.specs.Node.{nodes}
use Rattle.gen_graph.specs.NodeTexts.{elements_text}
use Rattle.gen_graph.specs.GraphTrees.{size_node}
use Rattle.gen_graph.proofs.written.put_sizes.Given as goal

-- what is written and what is left make the whole
abbrev pub invariant-loop-channel : goal.invariant-loop-channel
invariant-loop-channel l = l.text.items ++ elements_text (nodes (map size_node (drop l.channel-index l.channels))) ≡ l.initial.text.items ++ elements_text (nodes (map size_node l.fn.channels))
