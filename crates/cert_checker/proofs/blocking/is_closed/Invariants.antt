use Rattle.std.proofs.Common.{ℕ, ◌<◌, slice_index}
use Rattle.sd_base.specs.Schedules.{Lacks}
use Rattle.cert_checker.proofs.blocking.is_closed.Given as goal

abbrev pub invariant-loop-actor : goal.invariant-loop-actor
invariant-loop-actor g l = (a : ℕ) → a < l.actor → slice_index l.counts a < slice_index (g.F.Firing.net l.net).round a → Lacks (g.F.Firing.net l.net) (slice_index l.counts) a (slice_index l.counts a)
