use Rattle.std.proofs.Common.{◌≡◌, ℕ, ◌≤◌, ◌<◌, List, Option, Some, None, MatchOption, length, arith}
use Rattle.scenario_rate.specs.declared.levels.Cell.{Cell}
use Rattle.scenario_rate.specs.inside.Levels.{cell_at, AreSettled}
use Rattle.scenario_rate.proofs.CellsMakeRows.{cell-inside}
use Rattle.scenario_rate.proofs.levels.raised_node.Goals as goal

-- no node so far is no node at all, once all were looked at
whole : (row : List (Option Cell)) (n most : ℕ) (o : Option ℕ) (P : ℕ → Type 0) → length row ≤ n
    → MatchOption o ((most ≡ 0) × ((v : ℕ) (c : Cell) → v < n → cell_at row v ≡ Some c → c.edge ≡ None)) P → MatchOption o (AreSettled (cell_at row)) P
whole row n most None P all so_far = λ v c at. so_far.1 v c (let h : v < length row = cell-inside row v c at in omega arith) at
whole row n most (Some v) P all so_far = so_far

pub returns : goal.returns
returns c = whole c.args.row.now c.loop-node.node c.loop-node.most c.loop-node.best _ c.loop-node-test.false c.loop-node.invariant
