use Rattle.std.proofs.Common.{subst}
use Rattle.file_text.specs.Node.{tree_of}
use Rattle.graph_reader.specs.TreeSteps.{Gives}
use Rattle.graph_reader.specs.Sections.{table_of}
use Rattle.graph_reader.proofs.BrokenRules.{first_fault, text_fault, text_exact}
use Rattle.graph_reader.proofs.BrokenRules.{table_of as rules}
use Rattle.graph_reader.proofs.ReadNames.{given_names}
use Rattle.graph_reader.proofs.TablesKeepRules.{keeps_rules, is_timed}
use Rattle.graph_reader.proofs.read_graph.Goals as goal

pub returns-in-Ok-clause-fault : goal.returns-in-Ok-clause-fault
returns-in-Ok-clause-fault c = first_fault (table_of c.args.need_times) (rules c.args.need_times) c.args.bytes.now (tree_of c.in-Ok.tree.root) c.in-Ok.ensures.spelled c.table_of.result c.table_of.ensures

pub returns-in-Ok-clause-keeps : goal.returns-in-Ok-clause-keeps
returns-in-Ok-clause-keeps c = keeps_rules c.args.need_times (tree_of c.in-Ok.tree.root) c.table_of.result c.table_of.ensures

pub returns-in-Ok-clause-timed : goal.returns-in-Ok-clause-timed
returns-in-Ok-clause-timed c = is_timed c.args.need_times (tree_of c.in-Ok.tree.root) c.table_of.result c.table_of.ensures

pub returns-in-Ok-clause-exact : goal.returns-in-Ok-clause-exact
returns-in-Ok-clause-exact c = λ e spelled. subst (λ d. Gives (λ t. t) c.table_of.result (table_of c.args.need_times d)) (c.in-Ok.ensures.only e spelled) c.table_of.ensures

pub returns-in-Ok-clause-names : goal.returns-in-Ok-clause-names
returns-in-Ok-clause-names c = given_names c.args.need_times (tree_of c.in-Ok.tree.root) c.table_of.result c.in-Ok.ensures.characters c.table_of.ensures

pub returns-in-Err-clause-fault : goal.returns-in-Err-clause-fault
returns-in-Err-clause-fault c = text_fault (table_of c.args.need_times) c.args.bytes.now c.in-Err.fault c.from.result c.from.ensures c.in-Err.ensures.fault

pub returns-in-Err-clause-exact : goal.returns-in-Err-clause-exact
returns-in-Err-clause-exact c = λ e spelled. text_exact c.in-Err.fault c.from.result (table_of c.args.need_times e) c.from.ensures (c.in-Err.ensures.only e spelled)
