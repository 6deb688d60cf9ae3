use Rattle.std.proofs.Common.{◌++◌, ap, ◌∙◌}
use Rattle.std.specs.Prelude.{codes}
use Rattle.gen_graph.specs.NodeTexts.{inside_text, tagged}
use Rattle.gen_graph.specs.GraphTrees.{times_node}
use Rattle.gen_graph.proofs.MadeListsGrow.{tag_one}
use Rattle.gen_graph.proofs.rows.put_some_times.Goals as goal

pub returns : goal.returns
unfolding times_node tagged
returns c =
    let word = codes "actorProperties" in
    tag_one c.args.text.now.items _ _ _ word _ _ c.in_ok-put.ensures c.in_ok-put_attribute.ensures
    (c.in_ok-put_inside.ensures ∙ ap (λ l. c.put_attribute.new.text.items ++ inside_text word l) (c.as_slice.ensures.value ∙ c.in_ok-processor.ensures))
