use Rattle.std.proofs.Common.{◌≡◌, ◌+◌, ◌++◌, length}
use Rattle.cert_maker.specs.RateCertificates.{buffers_from}
use Rattle.cert_maker.proofs.rates.buffers_of.Given as goal

-- what was found and what is left are all buffers
abbrev pub invariant-loop-left : goal.invariant-loop-left
invariant-loop-left l = record {
  same : l.buffers.items ++ buffers_from l.channel l.left ≡ buffers_from 0 l.capacities;
  count : l.channel + length l.left ≡ length l.capacities;
}

abbrev pub decreases-loop-left : goal.decreases-loop-left
decreases-loop-left l = length l.left
