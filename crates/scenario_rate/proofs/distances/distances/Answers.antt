use Rattle.std.proofs.Common.{◌≡◌, ◌∙◌, ◌++◌, ℕ, List, Option, length, take, drop, ap, sym, subst, arith}
use Rattle.std.proofs.lemmas.List.{take_at}
use Rattle.scenario_rate.specs.declared.by_node.End.TheVariants.{To}
use Rattle.automaton.specs.SoundGraphs.{AreInside}
use Rattle.scenario_rate.proofs.NodesListEdges.{known_at}
use Rattle.scenario_rate.proofs.SpreadsFindDistances.{first_inside, start_long, start_inside, start_spread, end_spread, next_long, next_inside, next_spread, next_smaller}
use Rattle.scenario_rate.proofs.distances.distances.Goals as goal

pub nodes-init : goal.nodes-init
nodes-init c = record {
  long = start_long c.args.root (length c.args.into.now) c.in_ok-steps.steps.items c.new-queue.result.items c.push_back.new.self.items c.in_ok-steps.ensures c.requires.root c.new-queue.ensures.items c.in_ok-push_back.ensures.items;
  inside = start_inside c.args.root (length c.args.into.now) c.in_ok-steps.steps.items c.new-queue.result.items c.push_back.new.self.items c.in_ok-steps.ensures c.requires.root c.new-queue.ensures.items c.in_ok-push_back.ensures.items;
  spread = λ list listed. start_spread c.args.root (length c.args.into.now) c.in_ok-steps.steps.items c.new-queue.result.items c.push_back.new.self.items c.in_ok-steps.ensures c.requires.root c.new-queue.ensures.items c.in_ok-push_back.ensures.items c.args.edges.now list;
}

pub edges_at-list-requires : goal.edges_at-list-requires
edges_at-list-requires c = first_inside (length c.args.into.now) c.in-Some.node c.nodes.queue.items c.pop_front.new.self.items c.in-Some.ensures.items c.nodes.invariant.inside

pub bring_all-requires-clause-inside : goal.bring_all-requires-clause-inside
bring_all-requires-clause-inside c = subst (AreInside c.args.edges.now) (sym (ap (λ (l : List (Option ℕ)). length l) c.as_mut_slice.ensures.value ∙ c.nodes.invariant.long)) c.requires.inside

pub bring_all-requires-clause-few : goal.bring_all-requires-clause-few
bring_all-requires-clause-few c = let h : length c.as_mut_slice.result.now ≡ length c.args.into.now = ap (λ (l : List (Option ℕ)). length l) c.as_mut_slice.ensures.value ∙ c.nodes.invariant.long in omega (arith, c.requires.nodes)

pub bring_all-requires-clause-known : goal.bring_all-requires-clause-known
bring_all-requires-clause-known c = known_at To c.args.edges.now c.requires.listed.0 (length c.args.into.now) c.args.into.now c.requires.listed.1 c.in-Some.node c.edges_at-list.result.now c.edges_at-list.ensures

pub nodes-preserved : goal.nodes-preserved
nodes-preserved c =
    let back : take c.nodes.steps.len (c.bring_all.new.steps ++ drop (length c.bring_all.new.steps) c.nodes.steps.items) ≡ c.bring_all.new.steps = take_at c.bring_all.new.steps (drop (length c.bring_all.new.steps) c.nodes.steps.items) c.nodes.steps.len (omega (arith, c.bring_all.auto.steps, c.as_mut_slice.ensures.len)) in
    record {
      long = next_long c.args.edges.now c.args.into.now c.args.root c.in-Some.node c.nodes.steps.items c.as_mut_slice.result.now c.bring_all.new.steps (take c.nodes.steps.len (c.bring_all.new.steps ++ drop (length c.bring_all.new.steps) c.nodes.steps.items)) c.nodes.queue.items c.pop_front.new.self.items c.bring_all.new.queue.items c.edges_at-list.result.now c.as_mut_slice.ensures.value back c.in-Some.ensures.items c.edges_at-list.ensures c.in_ok-bring_all.ensures c.nodes.invariant.long c.nodes.invariant.inside;
      inside = next_inside c.args.edges.now c.args.into.now c.args.root c.in-Some.node c.nodes.steps.items c.as_mut_slice.result.now c.bring_all.new.steps (take c.nodes.steps.len (c.bring_all.new.steps ++ drop (length c.bring_all.new.steps) c.nodes.steps.items)) c.nodes.queue.items c.pop_front.new.self.items c.bring_all.new.queue.items c.edges_at-list.result.now c.as_mut_slice.ensures.value back c.in-Some.ensures.items c.edges_at-list.ensures c.in_ok-bring_all.ensures c.nodes.invariant.long c.nodes.invariant.inside;
      spread = next_spread c.args.edges.now c.args.into.now c.args.root c.in-Some.node c.nodes.steps.items c.as_mut_slice.result.now c.bring_all.new.steps (take c.nodes.steps.len (c.bring_all.new.steps ++ drop (length c.bring_all.new.steps) c.nodes.steps.items)) c.nodes.queue.items c.pop_front.new.self.items c.bring_all.new.queue.items c.edges_at-list.result.now c.as_mut_slice.ensures.value back c.in-Some.ensures.items c.edges_at-list.ensures c.in_ok-bring_all.ensures c.nodes.invariant.long c.nodes.invariant.inside c.nodes.invariant.spread;
    }

pub nodes-smaller : goal.nodes-smaller
nodes-smaller c =
    let back : take c.nodes.steps.len (c.bring_all.new.steps ++ drop (length c.bring_all.new.steps) c.nodes.steps.items) ≡ c.bring_all.new.steps = take_at c.bring_all.new.steps (drop (length c.bring_all.new.steps) c.nodes.steps.items) c.nodes.steps.len (omega (arith, c.bring_all.auto.steps, c.as_mut_slice.ensures.len)) in
    next_smaller c.args.edges.now c.args.into.now c.args.root c.in-Some.node c.nodes.steps.items c.as_mut_slice.result.now c.bring_all.new.steps (take c.nodes.steps.len (c.bring_all.new.steps ++ drop (length c.bring_all.new.steps) c.nodes.steps.items)) c.nodes.queue.items c.pop_front.new.self.items c.bring_all.new.queue.items c.edges_at-list.result.now c.as_mut_slice.ensures.value back c.in-Some.ensures.items c.edges_at-list.ensures c.in_ok-bring_all.ensures c.nodes.invariant.long c.nodes.invariant.inside

pub returns : goal.returns
returns c = λ list listed.
    end_spread c.args.edges.now list (length c.args.into.now) c.args.root c.nodes.steps.items c.nodes.queue.items (omega (arith, c.in_default.ensures.cases.0, c.nodes.queue.ok.0)) (c.nodes.invariant.spread list listed)
