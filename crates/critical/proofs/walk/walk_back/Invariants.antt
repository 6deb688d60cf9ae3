use Rattle.std.proofs.Common.{◌≡◌, ℕ, suc, ◌<◌, length}
use Rattle.critical.specs.inside.Trails.{IsSlackBefore, IsTrail, first_firing}
use Rattle.critical.proofs.MarkedFiringsRecur.{met_then, AreMarks}
use Rattle.critical.proofs.walk.walk_back.Given as goal

abbrev pub invariant-loop-place : goal.invariant-loop-place
invariant-loop-place g l = record {
  long : length l.met.items ≡ l.place;
  first : (met_then l.met.items l.here 0).firing ≡ first_firing l.table;
  way : IsTrail (g.F.Firing.net l.wired.net.now) l.table (met_then l.met.items l.here) l.place;
  needs : (i : ℕ) → i < l.place → IsSlackBefore (g.F.Firing.net l.wired.net.now) l.table (met_then l.met.items l.here i).firing (met_then l.met.items l.here (suc i)).channel;
  marks : AreMarks l.table (met_then l.met.items l.here) l.place l.marks.items;
}
