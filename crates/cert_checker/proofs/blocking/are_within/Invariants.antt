use Rattle.std.proofs.Common.{ℕ, ◌≤◌, ◌<◌, slice_index}
use Rattle.cert_checker.proofs.blocking.are_within.Given as goal

abbrev pub invariant-loop-actor : goal.invariant-loop-actor
invariant-loop-actor g l = (a : ℕ) → a < l.actor → slice_index l.counts a ≤ slice_index (g.F.Firing.net l.net).round a
