use Rattle.std.proofs.Common.{subst}
use Rattle.scenario_rate.specs.declared.passes.Turn.{Turn}
use Rattle.scenario_rate.specs.inside.Bests.{IsTurn}
use Rattle.scenario_rate.proofs.TimelessNeverSettles.{never}
use Rattle.scenario_rate.proofs.passes.first_cycle.Goals as goal

pub unreachable-requires : goal.unreachable-requires
unreachable-requires c =
    let o = subst (λ (x : Turn). IsTurn c.args.graph.now 1 0 x) c.in-Settled.is c.in_ok-_levels.ensures in
    never c.args.graph.now c.requires.grows c.requires.sound c.in-Settled._levels.rows.items o.2 o.3.0 o.3.1 o.3.3
