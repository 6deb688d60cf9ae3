use Rattle.std.proofs.Common.{◌≡◌, take}
use Rattle.selftimed.specs.inside.Standings.{remaining_now}
use Rattle.selftimed.proofs.shape.same_remaining.Given as goal

abbrev pub invariant-loop-actor : goal.invariant-loop-actor
invariant-loop-actor l = remaining_now l.moment (take l.actor l.actors) ≡ take l.actor l.remaining
