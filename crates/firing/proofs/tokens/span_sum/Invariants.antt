use Rattle.std.proofs.Common.{◌≡◌, ◌+◌, ◌*◌, ◌≤◌}
use Rattle.sd_base.specs.Net.{channel_at, total}
use Rattle.firing.specs.Ports.{rates_at}
use Rattle.firing.proofs.tokens.span_sum.Given as goal

abbrev pub invariant-loop-k : goal.invariant-loop-k
invariant-loop-k g l = record {
  sum : total (rates_at l.port (channel_at (g.F.Firing.net l.net) l.channel)) l.from + l.sum ≡ total (rates_at l.port (channel_at (g.F.Firing.net l.net) l.channel)) (l.from + l.k);
  small : l.sum ≤ l.k * 1000000;
}
