use Rattle.std.proofs.Common.{ℕ, ◌<◌}
use Rattle.std.specs.Prelude.{slice_index}
use Rattle.critical.specs.inside.Trails.{IsSlackOn}
use Rattle.critical.proofs.tight.tight_need.Given as goal

abbrev pub invariant-loop-channel : goal.invariant-loop-channel
invariant-loop-channel g l = (j : ℕ) → j < l.channel-index → IsSlackOn (g.F.Firing.net l.net) l.table l.later (slice_index l.inputs j)
