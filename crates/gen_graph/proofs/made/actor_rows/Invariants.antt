use Rattle.std.proofs.Common.{◌≡◌, ◌++◌, drop}
use Rattle.gen_graph.specs.MadeGraphs.{made_actors}
use Rattle.gen_graph.proofs.made.actor_rows.Given as goal

-- the rows so far and those of what is left are all
abbrev pub invariant-loop-i : goal.invariant-loop-i
invariant-loop-i l = l.rows ++ made_actors l.i (drop l.i l.drawn) ≡ made_actors 0 l.fn.drawn
