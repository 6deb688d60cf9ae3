use Rattle.std.proofs.Common.{◌≢◌, ℕ, ◌<◌}
use Rattle.scenario_rate.specs.inside.Searches.{node_after}
use Rattle.scenario_rate.proofs.repeat.earlier.Given as goal

abbrev pub invariant-loop-start : goal.invariant-loop-start
invariant-loop-start l = (k : ℕ) → k < l.start → node_after l.edges l.walk l.last k ≢ l.node
