use Rattle.std.proofs.Common.{◌≡◌, ◌-◌, length}
use Rattle.selftimed.proofs.FiringsStartTogether.{StartSoFar}
use Rattle.selftimed.proofs.starts.Turn.start_in_turn.Given as goal

abbrev pub invariant-firings : goal.invariant-firings
invariant-firings g l = record {
  so_far : StartSoFar (g.F.Firing.net l.self.net.now) l.self.actor l.self.moment l.from l.room l.initial.tokens l.tokens l.initial.running l.running l.count;
  long : length l.tokens ≡ length l.initial.tokens;
}

abbrev pub decreases-firings : goal.decreases-firings
decreases-firings g l = l.room - l.count
