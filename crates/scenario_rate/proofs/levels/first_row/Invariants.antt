use Rattle.std.proofs.Common.{◌≡◌, ◌≤◌, vec_capacity, vec_len}
use Rattle.scenario_rate.specs.inside.Levels.{IsFirstCell}
use Rattle.scenario_rate.proofs.CellsMakeRows.{So}
use Rattle.scenario_rate.proofs.levels.first_row.Given as goal

abbrev pub invariant-loop-node : goal.invariant-loop-node
invariant-loop-node l = So (IsFirstCell l.graph) l.row.items l.node × (vec_len l.row ≡ l.node) × (l.nodes ≤ vec_capacity l.row)
