use Rattle.std.proofs.Common.{◌≡◌, ◌<◌, ℕ, List, length, subst}
use Rattle.std.specs.Prelude.{slice_get, slice_index, slice_index_or, Some}
use Rattle.std.proofs.lemmas.List.{take_all}
use Rattle.std.proofs.lemmas.Option.{slice_get-get_or}
use Rattle.automaton.specs.declared.graph.Edge.{Edge}
use Rattle.scenario_rate.specs.inside.ByNode.{AreByNode}
use Rattle.scenario_rate.proofs.NodesListEdges.{listed_none, listed_step, inside_at}
use Rattle.scenario_rate.proofs.by_node.edges_by_node.Goals as goal

pub loop-number-init : goal.loop-number-init
loop-number-init c = listed_none c.args.end c.args.edges.now c.args.nodes c.in_ok-lists.lists.items c.in_ok-lists.ensures

pub loop-number-preserved : goal.loop-number-preserved
loop-number-preserved c =
    let at : slice_get c.args.list.now c.loop-number.number-index ≡ Some (slice_index c.args.list.now c.loop-number.number-index) = slice_get-get_or c.args.list.now c.loop-number.number-index 0 c.loop-number-test.true in
    let known : slice_index c.args.list.now c.loop-number.number-index < length c.args.edges.now = c.requires.known c.loop-number.number-index (slice_index c.args.list.now c.loop-number.number-index) at in
    let e : Edge = slice_index_or c.args.edges.now (slice_index c.args.list.now c.loop-number.number-index) (record { from = 0; to = 0; weight = 0 }) in
    let is : slice_get c.args.edges.now (slice_index c.args.list.now c.loop-number.number-index) ≡ Some e = slice_get-get_or c.args.edges.now (slice_index c.args.list.now c.loop-number.number-index) (record { from = 0; to = 0; weight = 0 }) known in
    listed_step c.args.end c.args.edges.now c.args.list.now c.loop-number.number-index c.args.nodes (slice_index c.args.list.now c.loop-number.number-index) c.node_at-node.result e c.loop-number.lists.items c.index_mut.result.now c.push.new.self
    c.loop-number.invariant c.loop-number-test.true at is c.node_at-node.ensures (inside_at c.args.end c.args.edges.now c.args.nodes (slice_index c.args.list.now c.loop-number.number-index) e c.node_at-node.result c.requires.inside is c.node_at-node.ensures)
    c.index_mut.ensures.value c.in_ok-push.ensures.ok

pub returns : goal.returns
returns c = subst (λ (l : List ℕ). AreByNode c.args.end c.args.edges.now l c.args.nodes c.loop-number.lists.items) (take_all c.loop-number.number-index c.args.list.now c.loop-number-test.false) c.loop-number.invariant
