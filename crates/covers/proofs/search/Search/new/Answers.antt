use Rattle.std.proofs.Common.{List, ap, ◌∙◌}
use Rattle.std.specs.BTreeSet.{insert_key}
use Rattle.covers.specs.declared.node.Node.{Node}
use Rattle.covers.specs.inside.NodeOrder.{node_cmp}
use Rattle.covers.proofs.FoundNodesDecide.{searched-root}
use Rattle.covers.proofs.search.Search.new.Goals as goal

pub returns-clause-searched : goal.returns-clause-searched
returns-clause-searched c =
    searched-root _ c.in_ok-root.root (c.in_ok-insert.ensures.keys ∙ ap (λ (ns : List Node). insert_key node_cmp ns c.in_ok-root.root) c.new-open.ensures.empty) c.new.ensures.items c.new-2.ensures.items c.in_ok-root.ensures
