use Rattle.std.proofs.Common.{◌≡◌, ◌*◌, subst, arith}
use Rattle.scenario_rate.specs.inside.Levels.{IsFirstCell}
use Rattle.scenario_rate.proofs.CellsMakeRows.{So, first-all}
use Rattle.scenario_rate.proofs.levels.first_row.Goals as goal

pub returns-clause-first : goal.returns-clause-first
returns-clause-first c = first-all c.args.graph.now c.loop-node.row.items c.requires
    (subst (λ n. So (IsFirstCell c.args.graph.now) c.loop-node.row.items n)
    (let e : c.loop-node.node ≡ c.args.graph.now.states * c.args.graph.now.tokens = omega arith in e) c.loop-node.invariant.0)
