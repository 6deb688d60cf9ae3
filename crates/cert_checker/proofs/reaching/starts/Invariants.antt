use Rattle.std.proofs.Common.{◌≡◌, ℕ, ◌<◌, ◌↔◌, true, length}
use Rattle.automaton.specs.CriticalCycles.{IsStart}
use Rattle.cert_checker.specs.inside.Marks.{mark_at}
use Rattle.cert_checker.proofs.reaching.starts.Given as goal

abbrev pub invariant-loop-node : goal.invariant-loop-node
invariant-loop-node l = record {
  size : length l.marks.items ≡ l.node;
  starts : (v : ℕ) → v < l.node → (mark_at l.marks.items v ≡ true) ↔ IsStart l.graph v;
}
