use Rattle.cert_checker.specs.inside.Listed.{AreKeptTo}
use Rattle.cert_checker.proofs.potentials.is_fitting.Given as goal

abbrev pub invariant-loop-edge : goal.invariant-loop-edge
invariant-loop-edge l = AreKeptTo l.graph l.rate l.potentials l.node l.potential l.edge-index
