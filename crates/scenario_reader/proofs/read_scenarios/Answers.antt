use Rattle.std.proofs.Common.{subst}
use Rattle.file_text.specs.Node.{tree_of}
use Rattle.graph_reader.specs.TreeSteps.{Gives}
use Rattle.graph_reader.proofs.BrokenRules.{first_fault, text_fault, text_exact}
use Rattle.scenario_reader.specs.ScenarioSections.{file_of}
use Rattle.scenario_reader.proofs.ScenarioRules.{rules}
use Rattle.scenario_reader.proofs.FileRules.{keeps_rules}
use Rattle.scenario_reader.proofs.FileNames.{given_names}
use Rattle.scenario_reader.proofs.read_scenarios.Goals as goal

pub returns-in-Ok-clause-fault : goal.returns-in-Ok-clause-fault
returns-in-Ok-clause-fault c = first_fault file_of rules c.args.bytes.now (tree_of c.in-Ok.tree.root) c.in-Ok.ensures.spelled c.read_file.result c.read_file.ensures

pub returns-in-Ok-clause-keeps : goal.returns-in-Ok-clause-keeps
returns-in-Ok-clause-keeps c = keeps_rules (tree_of c.in-Ok.tree.root) c.read_file.result c.read_file.ensures

pub returns-in-Ok-clause-exact : goal.returns-in-Ok-clause-exact
returns-in-Ok-clause-exact c = λ e spelled. subst (λ d. Gives (λ f. f) c.read_file.result (file_of d)) (c.in-Ok.ensures.only e spelled) c.read_file.ensures

pub returns-in-Ok-clause-names : goal.returns-in-Ok-clause-names
returns-in-Ok-clause-names c = given_names (tree_of c.in-Ok.tree.root) c.read_file.result c.in-Ok.ensures.characters c.read_file.ensures

pub returns-in-Err-clause-fault : goal.returns-in-Err-clause-fault
returns-in-Err-clause-fault c = text_fault file_of c.args.bytes.now c.in-Err.fault c.from.result c.from.ensures c.in-Err.ensures.fault

pub returns-in-Err-clause-exact : goal.returns-in-Err-clause-exact
returns-in-Err-clause-exact c = λ e spelled. text_exact c.in-Err.fault c.from.result (file_of e) c.from.ensures (c.in-Err.ensures.only e spelled)
