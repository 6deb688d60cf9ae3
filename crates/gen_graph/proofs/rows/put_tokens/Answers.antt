use Rattle.std.proofs.Common.{ap, ◌∙◌, ◌++◌}
use Rattle.std.specs.Prelude.{codes}
use Rattle.gen_graph.specs.NodeTexts.{attribute_text}
use Rattle.gen_graph.specs.GraphTrees.{attribute}
use Rattle.gen_graph.proofs.rows.put_tokens.Goals as goal

pub returns : goal.returns
returns c = c.in_ok-put_attribute.ensures ∙ ap (λ v. c.args.text.now.items ++ attribute_text (attribute (codes "initialTokens") v)) (c.as_str.ensures.value ∙ c.in_ok-tokens.ensures.ok)
