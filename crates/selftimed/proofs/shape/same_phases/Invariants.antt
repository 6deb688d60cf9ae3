use Rattle.std.proofs.Common.{◌≡◌, ◌%◌, map, take}
use Rattle.std.specs.List.{range_with_len}
use Rattle.sd_base.specs.Schedules.{phases_at}
use Rattle.selftimed.specs.inside.Actors.{started_in}
use Rattle.selftimed.proofs.shape.same_phases.Given as goal

abbrev pub invariant-loop-actor : goal.invariant-loop-actor
invariant-loop-actor g l = map (λ a. started_in l.actors a % phases_at (g.F.Firing.net l.net) a) (range_with_len 0 l.actor) ≡ take l.actor l.phases
