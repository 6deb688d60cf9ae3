use Rattle.std.proofs.Common.{◌^◌}
use Rattle.need_loops.specs.inside.Growing.{IsGrowth}
use Rattle.need_loops.proofs.by_rounds.loop_by_rounds.Given as goal

abbrev pub invariant-loop-rounds : goal.invariant-loop-rounds
invariant-loop-rounds g l = IsGrowth (g.F.Firing.net l.wired.net.now) (2 ^ 60) l.growth
