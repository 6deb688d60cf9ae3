use Rattle.std.proofs.Common.{◌≡◌, [], ◌++◌, ap, sym, ◌∙◌}
use Rattle.std.specs.Prelude.{codes}
use Rattle.std.proofs.lemmas.List.{append-nil}
use Rattle.gen_graph.specs.NodeTexts.{inside_text, tagged, element_text}
use Rattle.gen_graph.specs.GraphTrees.{application_node}
use Rattle.gen_graph.proofs.MadeListsGrow.{tag_one}
use Rattle.gen_graph.proofs.written.application_text.Goals as goal

pub returns : goal.returns
unfolding application_node tagged
returns c =
    let word = codes "applicationGraph" in
    let whole : c.put_inside.new.text.items ≡ element_text (application_node c.args.graph.now) =
    tag_one [] _ _ _ word _ _ (c.in_ok-put.ensures ∙ ap (λ l. l ++ codes "<applicationGraph") c.new-text.ensures.items) c.in_ok-put_attribute.ensures
    (c.in_ok-put_inside.ensures ∙ ap (λ l. c.put_attribute.new.text.items ++ inside_text word l) (c.as_slice.ensures.value ∙ c.in_ok-inside.ensures)) in
    whole ∙ sym (append-nil (element_text (application_node c.args.graph.now)))
