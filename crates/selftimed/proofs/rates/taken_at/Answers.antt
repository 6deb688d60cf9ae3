use Rattle.std.proofs.Common.{sym, ◌∙◌}
use Rattle.sd_base.specs.Net.{channel_at}
use Rattle.sd_base.proofs.SumsRepeatByTurns.{one-entry}
use Rattle.selftimed.proofs.rates.taken_at.Goals as goal

pub returns-then-phases-eq1 : goal.returns-then-phases-eq1
returns-then-phases-eq1 g c =
    c.requires.rate ∙ sym (one-entry (channel_at (g.F.Firing.net c.args.net.now) c.args.channel).taken c.args.firing (sym c.port_phases-phases.ensures.phases ∙ c.if-phases-eq1.true))
