use Rattle.std.proofs.Common.{Ok}
use Rattle.graph_reader.proofs.FilesDecide.{one_read, one_refusal, no_refusal}
use Rattle.scenario_reader.specs.ScenarioSections.{file_of}
use Rattle.scenario_reader.proofs.FileRules.{keeps_rules}
use Rattle.scenario_reader.proofs.FileNames.{writable}
use Rattle.scenario_reader.proofs.laws.know_scenario_files.Goals as goal

pub returns-clause-file : goal.returns-clause-file
returns-clause-file c = one_read file_of c.answers_are_one.ensures.one_tree

pub returns-clause-fault : goal.returns-clause-fault
returns-clause-fault c = one_refusal file_of c.answers_are_one.ensures.one_tree c.answers_are_one.ensures.one_fault c.answers_are_one.ensures.not_both

pub returns-clause-either : goal.returns-clause-either
returns-clause-either c = no_refusal file_of c.answers_are_one.ensures.one_tree c.answers_are_one.ensures.not_both

pub returns-clause-keeps : goal.returns-clause-keeps
returns-clause-keeps c = λ bytes f (e, spelled, read). keeps_rules e (Ok f) read

pub returns-clause-writable : goal.returns-clause-writable
returns-clause-writable c = writable
