use Rattle.std.proofs.Common.{ℕ, subst}
use Rattle.periodic.specs.ScheduleLines.{HasTurn}
use Rattle.periodic.proofs.RightLinesDecide.{met-decides}
use Rattle.periodic.proofs.turns.is_met.Goals as goal

pub returns : goal.returns
returns g c = met-decides (g.F.Firing.net c.args.net.now) c.know_laws.ensures c.args.period c.args.rounds c.args.rows.now c.args.channel c.is_fed.result c.requires.turns c.requires.channel
    (subst (λ (a : ℕ). HasTurn (g.F.Firing.net c.args.net.now) c.args.rounds c.args.rows.now a) c.source.ensures (c.has_turn.ensures.0 c.if-not-has_turn.false)) c.requires.turn c.is_fed.ensures
