use Rattle.std.proofs.Common.{◌≡◌, map, take}
use Rattle.graph_reader.specs.Sections.{phases_in}
use Rattle.graph_reader.proofs.table.phase_counts.Given as goal

abbrev pub invariant-loop-actor : goal.invariant-loop-actor
invariant-loop-actor l = l.phases.items ≡ map (phases_in l.times) (take l.actor-index l.actors)
