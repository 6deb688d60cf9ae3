use Rattle.std.proofs.Common.{◌≡◌, take}
use Rattle.bounded_scenarios.proofs.copies.copy_states.Given as goal

abbrev pub invariant-loop-state : goal.invariant-loop-state
invariant-loop-state l = l.rows ≡ take l.state-index l.states
