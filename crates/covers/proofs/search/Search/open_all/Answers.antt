use Rattle.std.proofs.Common.{List, sym, ap, ◌∙◌}
use Rattle.std.specs.BTreeSet.{insert_key}
use Rattle.covers.specs.declared.node.Node.{Node}
use Rattle.covers.specs.inside.NodeOrder.{node_cmp}
use Rattle.covers.proofs.InsertsKeepNodes.{put-push}
use Rattle.covers.proofs.search.Search.open_all.Goals as goal

pub loop-node-preserved : goal.loop-node-preserved
loop-node-preserved c = record {
  opened = c.in_ok-insert.ensures.keys ∙ (ap (λ (ns : List Node). insert_key node_cmp ns c.in-Some.node) c.loop-node.invariant.opened ∙ sym (put-push c.loop-node.yielded c.args.self.now.open.keys c.in-Some.node));
  same = record { lattice = c.loop-node.invariant.same.lattice; order = c.loop-node.invariant.same.order; bounds = c.loop-node.invariant.same.bounds; acting = c.loop-node.invariant.same.acting; best = c.loop-node.invariant.same.best };
}
