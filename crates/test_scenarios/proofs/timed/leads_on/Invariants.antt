use Rattle.std.proofs.Common.{ℕ, ◌<◌}
use Rattle.test_scenarios.specs.Leading.{LeadsFrom}
use Rattle.test_scenarios.proofs.timed.leads_on.Given as goal

abbrev pub invariant-loop-node : goal.invariant-loop-node
invariant-loop-node l = (v : ℕ) → v < l.node → LeadsFrom l.graph.edges v
