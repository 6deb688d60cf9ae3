use Rattle.file_text.proofs.ReaderMatchesMachine.{stack_on-push}
use Rattle.file_text.proofs.scanner.Scanner.close.Goals as goal

pub returns-in-Some : goal.returns-in-Some
returns-in-Some c = rw (c.in-Some.ensures.items, stack_on-push) c.put.ensures
