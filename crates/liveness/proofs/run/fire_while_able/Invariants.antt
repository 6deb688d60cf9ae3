use Rattle.std.proofs.Common.{◌≡◌, ◌≢◌, ℕ, ◌<◌}
use Rattle.std.specs.Prelude.{slice_index}
use Rattle.std.specs.Bool.{MatchBool}
use Rattle.sd_base.proofs.FiringOrdersEnd.{left_of}
use Rattle.liveness.specs.inside.UntimedRuns.{IsNoted}
use Rattle.liveness.proofs.run.fire_while_able.Given as goal

abbrev pub invariant-firings : goal.invariant-firings
invariant-firings g l = record {
  run : IsNoted (g.N.Note.holds l.note) (g.F.Firing.net l.wired.net.now) l.counts l.tokens;
  others : (a : ℕ) → a ≢ l.actor → slice_index l.counts a ≡ slice_index l.initial.counts a;
  fired : MatchBool l.fired
      (left_of (g.F.Firing.net l.wired.net.now) (slice_index l.counts) < left_of (g.F.Firing.net l.wired.net.now) (slice_index l.initial.counts))
      (l.counts ≡ l.initial.counts);
}

abbrev pub decreases-firings : goal.decreases-firings
decreases-firings g l = left_of (g.F.Firing.net l.wired.net.now) (slice_index l.counts)
