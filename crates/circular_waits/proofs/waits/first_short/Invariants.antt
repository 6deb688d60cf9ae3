use Rattle.std.proofs.Common.{ℕ, ◌≤◌, ◌<◌}
use Rattle.std.specs.Prelude.{slice_index}
use Rattle.circular_waits.proofs.waits.first_short.Given as goal

-- no actor so far is below its round
abbrev pub invariant-loop-actor : goal.invariant-loop-actor
invariant-loop-actor g l = (a : ℕ) → a < l.actor → slice_index (g.F.Firing.net l.net).round a ≤ slice_index l.counts a
