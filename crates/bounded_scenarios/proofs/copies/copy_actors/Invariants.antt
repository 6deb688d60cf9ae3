use Rattle.std.proofs.Common.{◌≡◌, take}
use Rattle.bounded_scenarios.proofs.copies.copy_actors.Given as goal

abbrev pub invariant-loop-actor : goal.invariant-loop-actor
invariant-loop-actor l = l.rows ≡ take l.actor-index l.actors
