use Rattle.std.proofs.Common.{◌≡◌, [], ◌∷◌, ◌++◌, ap, sym, ◌∙◌}
use Rattle.std.specs.Prelude.{codes}
use Rattle.std.proofs.lemmas.List.{append-nil}
use Rattle.file_text.specs.Node.{nodes}
use Rattle.gen_graph.specs.NodeTexts.{inside_text, tagged, element_text, elements_text}
use Rattle.gen_graph.specs.GraphTrees.{leaf, processor_node}
use Rattle.gen_graph.proofs.MadeListsGrow.{tag_two}
use Rattle.gen_graph.proofs.rows.processor_text.Goals as goal

pub returns : goal.returns
unfolding processor_node tagged
returns c =
    let word = codes "processor" in
    let times = c.as_slice.ensures.value ∙ (c.in_ok-execution.ensures ∙ ap (λ v. elements_text (nodes (leaf (codes "executionTime") (codes "time") v ∷ []))) (c.as_str.ensures.value ∙ c.in_ok-times.ensures)) in
    let whole : c.put_inside.new.text.items ≡ element_text (processor_node c.args.times.now) =
    tag_two [] _ _ _ _ word _ _ _ (c.in_ok-put.ensures ∙ ap (λ l. l ++ codes "<processor") c.new-text.ensures.items) c.in_ok-put_attribute.ensures c.in_ok-put_attribute-2.ensures
    (c.in_ok-put_inside.ensures ∙ ap (λ l. c.put_attribute-2.new.text.items ++ inside_text word l) times) in
    whole ∙ sym (append-nil (element_text (processor_node c.args.times.now)))
