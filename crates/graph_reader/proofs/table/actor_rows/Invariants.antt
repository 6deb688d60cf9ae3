use Rattle.std.proofs.Common.{◌≡◌, map, take}
use Rattle.graph_reader.specs.Sections.{actor_row}
use Rattle.graph_reader.proofs.table.actor_rows.Given as goal

abbrev pub invariant-loop-actor : goal.invariant-loop-actor
invariant-loop-actor l = l.rows ≡ map (actor_row l.times) (take l.actor-index l.actors)
