use Rattle.std.proofs.Common.{◌≡◌, ◌≤◌, length}
use Rattle.ordered.specs.inside.Steps.{pairs_from}
use Rattle.ordered.proofs.steps.pairs_of.Given as goal

abbrev pub invariant-loop-place : goal.invariant-loop-place
invariant-loop-place l = (l.pairs.items ≡ pairs_from l.order 0 l.place) × (length l.pairs.items ≤ l.most)
