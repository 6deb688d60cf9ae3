use Rattle.balance.proofs.MarksFollowPaths.{IsReach}
use Rattle.balance.proofs.connection.reached.Given as goal

abbrev pub invariant-loop-place : goal.invariant-loop-place
invariant-loop-place l = IsReach l.fn.direction l.ends l.actors l.marked.queue.items l.marked.marks.items l.place
