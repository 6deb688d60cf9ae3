use Rattle.std.proofs.Common.{◌≡◌, ◌≤◌, ◌++◌, drop}
use Rattle.gen_graph.specs.MadeGraphs.{made_channels}
use Rattle.gen_graph.proofs.made.rows_behind.Given as goal

-- the rows so far and those of what is left are all
abbrev pub invariant-loop-i : goal.invariant-loop-i
invariant-loop-i l = (l.rows ++ made_channels l.i l.weight (drop l.i l.rest) ≡ made_channels 0 l.fn.first l.fn.rest) × (1 ≤ l.weight) × (l.weight ≤ 3)
