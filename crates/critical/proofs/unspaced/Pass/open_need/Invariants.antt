use Rattle.std.proofs.Common.{ℕ, ◌<◌}
use Rattle.std.specs.Prelude.{slice_index}
use Rattle.critical.specs.inside.Searches.{HasLeftOn}
use Rattle.critical.proofs.unspaced.Pass.open_need.Given as goal

abbrev pub invariant-loop-channel : goal.invariant-loop-channel
invariant-loop-channel g l = (j : ℕ) → j < l.channel-index → HasLeftOn (g.F.Firing.net l.self.wired.now.net.now) l.self.table.now l.met l.marks l.later (slice_index l.inputs j)
