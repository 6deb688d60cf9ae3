use Rattle.std.proofs.Common.{ℕ, ◌<◌}
use Rattle.balance.specs.ConnectRefusals.{HasInput}
use Rattle.balance.proofs.connection.no_input.Given as goal

abbrev pub invariant-loop-actor : goal.invariant-loop-actor
invariant-loop-actor l = (a : ℕ) → a < l.actor → HasInput l.ends a
