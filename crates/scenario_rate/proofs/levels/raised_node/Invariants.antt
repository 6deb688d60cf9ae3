use Rattle.std.proofs.Common.{◌≡◌, ℕ, ◌<◌, length, Some, None, MatchOption}
use Rattle.scenario_rate.specs.declared.levels.Cell.{Cell}
use Rattle.scenario_rate.specs.inside.Levels.{cell_at}
use Rattle.scenario_rate.proofs.levels.raised_node.Given as goal

-- no node so far was raised, or the best one was
abbrev pub invariant-loop-node : goal.invariant-loop-node
invariant-loop-node l = MatchOption l.best
    ((l.most ≡ 0) × ((v : ℕ) (c : Cell) → v < l.node → cell_at l.row v ≡ Some c → c.edge ≡ None))
    (λ v. (v < length l.row) × ((c : Cell) × (cell_at l.row v ≡ Some c) × ((k : ℕ) × (c.edge ≡ Some k))))
