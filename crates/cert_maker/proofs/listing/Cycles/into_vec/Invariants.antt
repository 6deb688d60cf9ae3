use Rattle.std.proofs.Common.{◌≡◌, ◌++◌, map}
use Rattle.cert_maker.specs.inside.Listing.{cycle_of}
use Rattle.cert_maker.proofs.listing.Cycles.into_vec.Given as goal

-- those that were taken out, and those that are left
abbrev pub invariant-loop-cycle : goal.invariant-loop-cycle
invariant-loop-cycle l = l.cycles.items ++ map cycle_of l.cycle-iterator ≡ l.fn.self
