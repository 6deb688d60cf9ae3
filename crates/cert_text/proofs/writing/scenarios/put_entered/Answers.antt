use Rattle.std.proofs.Common.{◌≡◌, ◌+◌, ◌++◌, take}
use Rattle.std.specs.List.{flat_map}
use Rattle.std.specs.String.{string_bytes}
use Rattle.std.proofs.lemmas.Result.{err_from_is_err_and}
use Rattle.std.proofs.lemmas.List.Elements.{All-more}
use Rattle.sd_base.proofs.ElementsKeepPlaces.{flat_next, flat_end}
use Rattle.cert_text.proofs.GivenUp.{up-at}
use Rattle.cert_text.specs.ScenarioLines.{node_line}
use Rattle.cert_text.proofs.PiecesMakeTexts.{all-end}
use Rattle.cert_text.proofs.writing.scenarios.put_entered.Goals as goal
use Rattle.cert_text.specs.Limits.{IsNodeWithin}

pub returns-clause-text : goal.returns-clause-text
returns-clause-text c = flat_end node_line _ _ c.args.nodes.now c.loop-node.node-index c.loop-node-test.false c.loop-node.invariant.text

pub returns-clause-within : goal.returns-clause-within
returns-clause-within c = all-end IsNodeWithin c.args.nodes.now c.loop-node.node-index c.loop-node-test.false c.loop-node.invariant.within

pub loop-node-preserved : goal.loop-node-preserved
loop-node-preserved c = record {
  text = flat_next node_line _ _ _ c.args.nodes.now c.loop-node.node-index _ c.loop-node-test.true c.loop-node.invariant.text c.in_ok-put_node.ensures.text;
  within = All-more IsNodeWithin c.args.nodes.now c.loop-node.node-index _ c.loop-node-test.true c.loop-node.invariant.within c.put_node.ensures.within;
}

pub returns-in_err-keep_within-clause-long : goal.returns-in_err-keep_within-clause-long
returns-in_err-keep_within-clause-long c =
    let p = err_from_is_err_and c.from_residual-in_err-keep_within.result c.from_residual-in_err-keep_within.ensures.1 in
    let put : string_bytes c.put_node.new.text ≡ string_bytes c.args.text.now ++ flat_map node_line (take (c.loop-node.node-index + 1) c.args.nodes.now) = flat_next node_line _ _ _ c.args.nodes.now c.loop-node.node-index _ c.loop-node-test.true c.loop-node.invariant.text c.in_ok-put_node.ensures.text in
    rw (p.1, p.2) (up-at node_line (string_bytes c.args.text.now) (string_bytes c.put_node.new.text) c.args.nodes.now (c.loop-node.node-index + 1) c.in_err-keep_within.field-0.0 put c.in_err-keep_within.ensures.long)
