use Rattle.std.proofs.Common.{◌≡◌, ◌++◌, ◌-◌, length, drop}
use Rattle.balance.specs.Walks.{turned}
use Rattle.balance.proofs.closed.turn_back.Given as goal

abbrev pub invariant-loop-done : goal.invariant-loop-done
invariant-loop-done l = l.walk.items ≡ l.initial.walk.items ++ turned (drop (length l.steps - l.done) l.steps)
