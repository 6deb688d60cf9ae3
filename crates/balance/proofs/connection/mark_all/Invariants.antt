use Rattle.balance.specs.inside.Reaching.{AreMarked}
use Rattle.balance.proofs.connection.mark_all.Given as goal

abbrev pub invariant-loop-to : goal.invariant-loop-to
invariant-loop-to l = AreMarked l.next l.to-index l.initial.marked.queue.items l.initial.marked.marks.items l.marked.queue.items l.marked.marks.items
