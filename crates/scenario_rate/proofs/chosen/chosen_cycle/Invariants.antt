use Rattle.std.proofs.Common.{ℕ, ◌≤◌, ◌<◌, List, length}
use Rattle.scenario_rate.specs.inside.Choosing.{IsWalkAmong}
use Rattle.scenario_rate.proofs.chosen.chosen_cycle.Given as goal

-- no closed walk leads through an earlier node
abbrev pub invariant-loop-root : goal.invariant-loop-root
invariant-loop-root l = (v : ℕ) → v < l.root → (ks : List ℕ) → 1 ≤ length ks → IsWalkAmong l.edges l.tight v ks v → ⊥
