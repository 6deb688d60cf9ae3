use Rattle.std.proofs.Common.{◌∙◌, sym, subst, arith}
use Rattle.scenario_rate.specs.declared.by_node.End.TheVariants.{From, To}
use Rattle.automaton.specs.SoundGraphs.{AreInside}
use Rattle.scenario_rate.proofs.NodesListEdges.{known_at, listed_as, listed_long}
use Rattle.scenario_rate.proofs.LeastCycleIsChosen.{distance_read, steps_long, lists_read, none_read, way_read, lists_long, chosen_read}
use Rattle.scenario_rate.proofs.chosen.chosen_cycle.Goals as goal

pub distances-requires-clause-inside : goal.distances-requires-clause-inside
distances-requires-clause-inside c = subst (AreInside c.args.edges.now) (sym (listed_long To c.args.edges.now c.args.tight.now c.args.nodes c.in_ok-into.into.items c.as_slice-into.result.now c.as_slice-into.ensures.value c.in_ok-into.ensures)) c.requires.inside

pub distances-requires-clause-nodes : goal.distances-requires-clause-nodes
distances-requires-clause-nodes c = omega (arith, c.requires.nodes, listed_long To c.args.edges.now c.args.tight.now c.args.nodes c.in_ok-into.into.items c.as_slice-into.result.now c.as_slice-into.ensures.value c.in_ok-into.ensures)

pub distances-requires-clause-listed : goal.distances-requires-clause-listed
distances-requires-clause-listed c = (c.args.tight.now, listed_as To c.args.edges.now c.args.tight.now c.args.nodes c.in_ok-into.into.items c.as_slice-into.result.now c.as_slice-into.ensures.value c.in_ok-into.ensures)

pub distances-requires-clause-root : goal.distances-requires-clause-root
distances-requires-clause-root c = omega (arith, c.loop-root-test.true, listed_long To c.args.edges.now c.args.tight.now c.args.nodes c.in_ok-into.into.items c.as_slice-into.result.now c.as_slice-into.ensures.value c.in_ok-into.ensures)

pub edges_at-requires : goal.edges_at-requires
edges_at-requires c = omega (arith, c.loop-root-test.true, listed_long From c.args.edges.now c.args.tight.now c.args.nodes c.in_ok-out_of.out_of.items c.as_slice-out_of.result.now c.as_slice-out_of.ensures.value c.in_ok-out_of.ensures)

pub fewest_back-requires-clause-inside : goal.fewest_back-requires-clause-inside
fewest_back-requires-clause-inside c = subst (AreInside c.args.edges.now) (sym (steps_long c.args.edges.now c.args.tight.now c.args.nodes c.loop-root.root c.in_ok-into.into.items c.as_slice-into.result.now c.in_ok-out_of.out_of.items c.as_slice-out_of.result.now c.in_ok-steps.steps.items c.as_slice-steps.result.now c.as_slice-into.ensures.value c.as_slice-out_of.ensures.value c.as_slice-steps.ensures.value c.in_ok-into.ensures c.in_ok-out_of.ensures c.in_ok-steps.ensures)) c.requires.inside

pub fewest_back-requires-clause-nodes : goal.fewest_back-requires-clause-nodes
fewest_back-requires-clause-nodes c = omega (arith, c.requires.nodes, steps_long c.args.edges.now c.args.tight.now c.args.nodes c.loop-root.root c.in_ok-into.into.items c.as_slice-into.result.now c.in_ok-out_of.out_of.items c.as_slice-out_of.result.now c.in_ok-steps.steps.items c.as_slice-steps.result.now c.as_slice-into.ensures.value c.as_slice-out_of.ensures.value c.as_slice-steps.ensures.value c.in_ok-into.ensures c.in_ok-out_of.ensures c.in_ok-steps.ensures)

pub fewest_back-requires-clause-known : goal.fewest_back-requires-clause-known
fewest_back-requires-clause-known c = known_at From c.args.edges.now c.args.tight.now c.args.nodes c.as_slice-out_of.result.now (lists_read c.args.edges.now c.args.tight.now c.args.nodes c.loop-root.root c.in_ok-into.into.items c.as_slice-into.result.now c.in_ok-out_of.out_of.items c.as_slice-out_of.result.now c.in_ok-steps.steps.items c.as_slice-steps.result.now c.as_slice-into.ensures.value c.as_slice-out_of.ensures.value c.as_slice-steps.ensures.value c.in_ok-into.ensures c.in_ok-out_of.ensures c.in_ok-steps.ensures) c.loop-root.root c.edges_at.result.now c.edges_at.ensures

pub fewest_back-requires-clause-few : goal.fewest_back-requires-clause-few
fewest_back-requires-clause-few c = λ v d at. omega (arith, c.requires.nodes, (distance_read c.args.edges.now c.args.tight.now c.args.nodes c.loop-root.root c.in_ok-into.into.items c.as_slice-into.result.now c.in_ok-out_of.out_of.items c.as_slice-out_of.result.now c.in_ok-steps.steps.items c.as_slice-steps.result.now c.as_slice-into.ensures.value c.as_slice-out_of.ensures.value c.as_slice-steps.ensures.value c.in_ok-into.ensures c.in_ok-out_of.ensures c.in_ok-steps.ensures).few v d at)

pub least_way-requires-clause-inside : goal.least_way-requires-clause-inside
least_way-requires-clause-inside c = subst (AreInside c.args.edges.now) (sym (steps_long c.args.edges.now c.args.tight.now c.args.nodes c.loop-root.root c.in_ok-into.into.items c.as_slice-into.result.now c.in_ok-out_of.out_of.items c.as_slice-out_of.result.now c.in_ok-steps.steps.items c.as_slice-steps.result.now c.as_slice-into.ensures.value c.as_slice-out_of.ensures.value c.as_slice-steps.ensures.value c.in_ok-into.ensures c.in_ok-out_of.ensures c.in_ok-steps.ensures)) c.requires.inside

pub least_way-requires-clause-long : goal.least_way-requires-clause-long
least_way-requires-clause-long c = listed_long From c.args.edges.now c.args.tight.now c.args.nodes c.in_ok-out_of.out_of.items c.as_slice-out_of.result.now c.as_slice-out_of.ensures.value c.in_ok-out_of.ensures ∙ sym (steps_long c.args.edges.now c.args.tight.now c.args.nodes c.loop-root.root c.in_ok-into.into.items c.as_slice-into.result.now c.in_ok-out_of.out_of.items c.as_slice-out_of.result.now c.in_ok-steps.steps.items c.as_slice-steps.result.now c.as_slice-into.ensures.value c.as_slice-out_of.ensures.value c.as_slice-steps.ensures.value c.in_ok-into.ensures c.in_ok-out_of.ensures c.in_ok-steps.ensures)

pub least_way-requires-clause-node : goal.least_way-requires-clause-node
least_way-requires-clause-node c = omega (arith, c.loop-root-test.true, steps_long c.args.edges.now c.args.tight.now c.args.nodes c.loop-root.root c.in_ok-into.into.items c.as_slice-into.result.now c.in_ok-out_of.out_of.items c.as_slice-out_of.result.now c.in_ok-steps.steps.items c.as_slice-steps.result.now c.as_slice-into.ensures.value c.as_slice-out_of.ensures.value c.as_slice-steps.ensures.value c.in_ok-into.ensures c.in_ok-out_of.ensures c.in_ok-steps.ensures)

pub least_way-requires-clause-way : goal.least_way-requires-clause-way
least_way-requires-clause-way c = (
  c.args.tight.now,
  c.loop-root.root,
  lists_long c.args.edges.now c.args.tight.now c.args.nodes c.loop-root.root c.in_ok-into.into.items c.as_slice-into.result.now c.in_ok-out_of.out_of.items c.as_slice-out_of.result.now c.in_ok-steps.steps.items c.as_slice-steps.result.now c.as_slice-into.ensures.value c.as_slice-out_of.ensures.value c.as_slice-steps.ensures.value c.in_ok-into.ensures c.in_ok-out_of.ensures c.in_ok-steps.ensures c.edges_at.result.now c.edges_at.ensures c.in-Some.fewest c.in-Some.ensures,
  way_read c.args.edges.now c.args.tight.now c.args.nodes c.loop-root.root c.in_ok-into.into.items c.as_slice-into.result.now c.in_ok-out_of.out_of.items c.as_slice-out_of.result.now c.in_ok-steps.steps.items c.as_slice-steps.result.now c.as_slice-into.ensures.value c.as_slice-out_of.ensures.value c.as_slice-steps.ensures.value c.in_ok-into.ensures c.in_ok-out_of.ensures c.in_ok-steps.ensures c.edges_at.result.now c.edges_at.ensures c.in-Some.fewest c.in-Some.ensures,
)

pub returns-in-Some : goal.returns-in-Some
returns-in-Some c = chosen_read c.args.edges.now c.args.tight.now c.args.nodes c.loop-root.root c.in_ok-into.into.items c.as_slice-into.result.now c.in_ok-out_of.out_of.items c.as_slice-out_of.result.now c.in_ok-steps.steps.items c.as_slice-steps.result.now c.as_slice-into.ensures.value c.as_slice-out_of.ensures.value c.as_slice-steps.ensures.value c.in_ok-into.ensures c.in_ok-out_of.ensures c.in_ok-steps.ensures c.edges_at.result.now c.edges_at.ensures c.in-Some.fewest c.in-Some.ensures c.in_ok-cycle.cycle.items c.loop-root.invariant c.in_ok-cycle.ensures

pub loop-root-preserved : goal.loop-root-preserved
loop-root-preserved c = none_read c.args.edges.now c.args.tight.now c.args.nodes c.loop-root.root c.in_ok-into.into.items c.as_slice-into.result.now c.in_ok-out_of.out_of.items c.as_slice-out_of.result.now c.in_ok-steps.steps.items c.as_slice-steps.result.now c.as_slice-into.ensures.value c.as_slice-out_of.ensures.value c.as_slice-steps.ensures.value c.in_ok-into.ensures c.in_ok-out_of.ensures c.in_ok-steps.ensures c.edges_at.result.now c.edges_at.ensures c.requires.inside c.loop-root-test.true c.in_default.ensures c.loop-root.invariant
