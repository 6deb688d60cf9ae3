use Rattle.std.proofs.Common.{◌≡◌, ◌+◌, ◌++◌, length}
use Rattle.cert_maker.specs.WorstCertificates.{potentials_from}
use Rattle.cert_maker.proofs.worst_rates.potentials_of.Given as goal

-- what was found and what is left are all potentials
abbrev pub invariant-loop-left : goal.invariant-loop-left
invariant-loop-left l = record {
  same : l.found.items ++ potentials_from l.tokens l.node l.left ≡ potentials_from l.tokens 0 l.potentials;
  count : l.node + length l.left ≡ length l.potentials;
}

abbrev pub decreases-loop-left : goal.decreases-loop-left
decreases-loop-left l = length l.left
