use Rattle.std.proofs.Common.{ℕ, ◌<◌}
use Rattle.cert_checker.specs.ListedNodes.{FitsAt}
use Rattle.cert_checker.proofs.potentials.first_unfit.Given as goal

abbrev pub invariant-loop-place : goal.invariant-loop-place
invariant-loop-place l = (i : ℕ) → i < l.place → FitsAt l.graph l.rate l.potentials i
