use Rattle.std.proofs.Common.{◌≡◌, ◌++◌, sym, ap, ◌∙◌, subst}
use Rattle.file_text.specs.Grammar.{IsText}
use Rattle.graph_reader.specs.Laws.{Gives}
use Rattle.gen_graph.specs.NodeTexts.{element_text}
use Rattle.gen_graph.specs.GraphTrees.{graph_tree, written}
use Rattle.gen_graph.proofs.TreeTexts.{header, spelled_text}
use Rattle.gen_graph.proofs.TableBack.{reads_back}
use Rattle.gen_graph.proofs.written.write_graph.Goals as goal

whole : (c : goal.After-from_vec) → c.from_vec.result ≡ written c.args.graph.now
unfolding written
whole c =
    let g = c.args.graph.now in
    c.from_vec.ensures ∙ (c.in_ok-put_root.ensures ∙ ap (λ l. l ++ element_text (graph_tree g)) (c.in_ok-put.ensures ∙ ap (λ l. l ++ header) c.new-text.ensures.items))

pub returns-clause-spells : goal.returns-clause-spells
returns-clause-spells c = λ is. subst (λ t. IsText (graph_tree c.args.graph.now) t) (sym (whole c)) (spelled_text c.args.graph.now c.requires is)

pub returns-clause-read : goal.returns-clause-read
returns-clause-read c = λ is need_times timed. subst (λ t. Gives t need_times c.args.graph.now) (sym (whole c)) (reads_back c.args.graph.now c.requires is need_times timed)
