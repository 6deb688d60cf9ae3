use Rattle.std.proofs.Common.{◌≡◌, ◌==◌, length}
use Rattle.std.specs.List.{find}
use Rattle.sd_base.specs.declared.tables.ActorRow.{ActorRow}
use Rattle.graph_reader.proofs.table.untimed_actor.Given as goal

abbrev pub invariant-loop-left : goal.invariant-loop-left
invariant-loop-left l = find (λ (a : ActorRow). length a.times == 0) l.left ≡ find (λ (a : ActorRow). length a.times == 0) l.actors

abbrev pub decreases-loop-left : goal.decreases-loop-left
decreases-loop-left l = length l.left
