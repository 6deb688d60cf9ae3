use Rattle.file_text.proofs.RecognisedFaults.{one_fault, no_fault}
use Rattle.file_text.proofs.OneTreeOrFault.{some_answer, one_tree}
use Rattle.file_text.proofs.laws.answers_are_one.Goals as goal

pub returns : goal.returns
returns c = record { some = some_answer; one_tree = one_tree; one_fault = one_fault; not_both = no_fault }
