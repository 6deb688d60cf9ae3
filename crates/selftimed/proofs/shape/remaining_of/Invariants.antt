use Rattle.std.proofs.Common.{◌≡◌, take}
use Rattle.selftimed.specs.inside.Standings.{remaining_now}
use Rattle.selftimed.proofs.shape.remaining_of.Given as goal

abbrev pub invariant-loop-state : goal.invariant-loop-state
invariant-loop-state l = l.rows ≡ remaining_now l.moment (take l.state-index l.actors)
