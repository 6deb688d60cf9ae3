use Rattle.std.proofs.Common.{◌≡◌, fold, take}
use Rattle.std.specs.List.{flat_map}
use Rattle.levels.specs.inside.Hashes.{capacity_input}
use Rattle.levels.proofs.found.FoundHash.hash.Given as goal

-- the capacities that were passed were fed
abbrev pub invariant-loop-capacity : goal.invariant-loop-capacity
invariant-loop-capacity g l = l.state ≡ fold (g.S.Hasher.write) l.fn.state (flat_map capacity_input (take l.capacity-index l.capacity-items))
