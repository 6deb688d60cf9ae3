use Rattle.std.proofs.Common.{[], ◌∷◌, ◌++◌, ap, ◌∙◌}
use Rattle.std.specs.Prelude.{codes}
use Rattle.file_text.specs.Node.{nodes}
use Rattle.gen_graph.specs.NodeTexts.{attribute_text, inside_text, tagged, elements_text}
use Rattle.gen_graph.specs.GraphTrees.{attribute, leaf, size_node}
use Rattle.gen_graph.proofs.MadeListsGrow.{tag_one}
use Rattle.gen_graph.proofs.rows.put_size.Goals as goal

pub returns : goal.returns
unfolding size_node tagged
returns c =
    let size = c.as_slice.ensures.value ∙ (c.in_ok-inside.ensures ∙ ap (λ v. elements_text (nodes (leaf (codes "tokenSize") (codes "sz") v ∷ []))) (c.as_str.ensures.value ∙ c.in_ok-size.ensures.ok)) in
    tag_one c.args.text.now.items _ _ _ (codes "channelProperties") _ _ c.in_ok-put.ensures
    (c.in_ok-put_attribute.ensures ∙ ap (λ n. c.put.new.text.items ++ attribute_text (attribute (codes "channel") n)) c.as_str-2.ensures)
    (c.in_ok-put_inside.ensures ∙ ap (λ l. c.put_attribute.new.text.items ++ inside_text (codes "channelProperties") l) size)
