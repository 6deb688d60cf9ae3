use Rattle.std.proofs.Common.{◌^◌, ◌≤◌}
use Rattle.need_loops.specs.inside.Growing.{IsGrowth}
use Rattle.need_loops.proofs.by_moments.loop_by_moments.Given as goal

abbrev pub invariant-loop-look : goal.invariant-loop-look
invariant-loop-look g l = record {
  grown : IsGrowth (g.F.Firing.net l.wired.net.now) l.pace.until l.growth;
  soon : l.pace.until ≤ 2 ^ 62;
}
