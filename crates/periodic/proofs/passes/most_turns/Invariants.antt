use Rattle.std.proofs.Common.{◌≤◌}
use Rattle.periodic.specs.inside.Passes.{HasTurns}
use Rattle.periodic.proofs.passes.most_turns.Given as goal

abbrev pub invariant-loop-actor : goal.invariant-loop-actor
invariant-loop-actor l = record {
  turns : HasTurns l.table l.actor l.most;
  few : l.most ≤ 4000000;
}
