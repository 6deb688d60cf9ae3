use Rattle.std.proofs.Common.{◌≡◌, map, take}
use Rattle.storage.specs.BoundedNets.{spaces_from}
use Rattle.storage.specs.inside.SpaceLists.{AreSpacesOf, space_in}
use Rattle.storage.proofs.bounded.spaces_of.Given as goal

abbrev pub invariant-loop-channel : goal.invariant-loop-channel
invariant-loop-channel g l =
    AreSpacesOf (g.F.Firing.net l.net) l.spaces.items
    × (map (space_in (g.F.Firing.net l.net)) l.spaces.items ≡ spaces_from 0 (g.F.Firing.net l.net).channels (take l.channel l.capacities.capacities))
