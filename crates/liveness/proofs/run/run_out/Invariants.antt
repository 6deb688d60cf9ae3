use Rattle.liveness.specs.inside.UntimedRuns.{IsNoted}
use Rattle.liveness.specs.inside.Looks.{LeavesFlags}
use Rattle.liveness.proofs.LooksRunOut.{looks_left}
use Rattle.liveness.proofs.run.run_out.Given as goal

abbrev pub invariant-looks : goal.invariant-looks
invariant-looks g l = record {
  run : IsNoted (g.N.Note.holds l.note) (g.F.Firing.net l.wired.net.now) l.counts l.tokens;
  leaves : LeavesFlags (g.F.Firing.net l.wired.net.now) l.counts l.flags.flagged.items l.flags.stack.items;
}

abbrev pub decreases-looks : goal.decreases-looks
decreases-looks g l = looks_left (g.F.Firing.net l.wired.net.now) l.counts l.flags.stack.items
