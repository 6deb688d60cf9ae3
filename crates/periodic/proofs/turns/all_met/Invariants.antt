use Rattle.std.proofs.Common.{◌≡◌, ℕ, ◌<◌}
use Rattle.sd_base.specs.Net.{channel_at}
use Rattle.periodic.specs.ScheduleLines.{HasTurn, IsMet}
use Rattle.periodic.proofs.turns.all_met.Given as goal

abbrev pub invariant-loop-channel : goal.invariant-loop-channel
invariant-loop-channel g l = (i : ℕ) → i < l.channel → (channel_at (g.F.Firing.net l.net) i).target ≡ l.actor →
    HasTurn (g.F.Firing.net l.net) l.rounds l.rows (channel_at (g.F.Firing.net l.net) i).source → IsMet (g.F.Firing.net l.net) l.period l.rows i
