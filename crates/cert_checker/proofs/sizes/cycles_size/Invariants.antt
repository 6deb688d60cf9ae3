use Rattle.std.proofs.Common.{◌≡◌, ◌+◌, map, take}
use Rattle.std.specs.Prelude.{sum}
use Rattle.cert_checker.specs.StorageLines.{cycle_size}
use Rattle.cert_checker.specs.inside.FirstFaults.{kept_number}
use Rattle.cert_checker.proofs.sizes.cycles_size.Given as goal

abbrev pub invariant-loop-cycle : goal.invariant-loop-cycle
invariant-loop-cycle l = l.size ≡ kept_number (1 + sum (map cycle_size (take l.cycle-index l.cycles)))
