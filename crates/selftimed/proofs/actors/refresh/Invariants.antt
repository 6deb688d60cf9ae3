use Rattle.std.proofs.Common.{◌≡◌, replicate}
use Rattle.selftimed.specs.inside.Actors.{fresh_one}
use Rattle.selftimed.proofs.actors.refresh.Given as goal

abbrev pub invariant-loop-actor : goal.invariant-loop-actor
invariant-loop-actor l = l.actors.items ≡ replicate l._actor fresh_one
