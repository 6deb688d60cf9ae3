use Rattle.graph_reader.proofs.FilesDecide.{one_table, one_fault, no_fault, keeps, timed}
use Rattle.graph_reader.proofs.ReadNames.{writable}
use Rattle.graph_reader.proofs.laws.know_files.Goals as goal

pub returns-clause-table : goal.returns-clause-table
returns-clause-table c = one_table c.answers_are_one.ensures.one_tree

pub returns-clause-fault : goal.returns-clause-fault
returns-clause-fault c = one_fault c.answers_are_one.ensures.one_tree c.answers_are_one.ensures.one_fault c.answers_are_one.ensures.not_both

pub returns-clause-either : goal.returns-clause-either
returns-clause-either c = no_fault c.answers_are_one.ensures.one_tree c.answers_are_one.ensures.not_both

pub returns-clause-keeps : goal.returns-clause-keeps
returns-clause-keeps c = keeps

pub returns-clause-timed : goal.returns-clause-timed
returns-clause-timed c = timed

pub returns-clause-writable : goal.returns-clause-writable
returns-clause-writable c = writable
