use Rattle.std.proofs.Common.{ℕ, ◌≤◌, ◌<◌}
use Rattle.std.specs.Prelude.{slice_index}
use Rattle.sd_base.specs.Net.{channel_at}
use Rattle.liveness.specs.inside.Series.{EndsSeries, Feeds}
use Rattle.liveness.proofs.series.fed_in_series.Given as goal

abbrev pub invariant-loop-channel : goal.invariant-loop-channel
invariant-loop-channel g l = record {
  few : l.firings ≤ l.most;
  some : 0 < l.firings;
  fed : (j : ℕ) → j < l.channel-index → Feeds (channel_at (g.F.Firing.net l.net) (slice_index l.inputs j)) (slice_index l.tokens (slice_index l.inputs j)) l.count l.firings;
  ends : l.firings < l.most → EndsSeries (g.F.Firing.net l.net) l.tokens l.actor l.count l.firings;
}
