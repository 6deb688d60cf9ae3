use Rattle.std.proofs.Common.{◌≡◌, map, take}
use Rattle.sd_base.specs.declared.tables.ActorRow.{ActorRow}
use Rattle.firing.proofs.csdf.times_of.Given as goal

abbrev pub invariant-loop-actor : goal.invariant-loop-actor
invariant-loop-actor l = l.times.items ≡ map (λ (a : ActorRow). a.times) (take l.actor-index l.graph.actors)
