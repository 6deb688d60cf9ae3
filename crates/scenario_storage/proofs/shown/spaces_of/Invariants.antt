use Rattle.std.proofs.Common.{◌≡◌, ◌+◌, ◌++◌, ◌≤◌, drop}
use Rattle.scenario_storage.specs.inside.Shown.{spaces_from}
use Rattle.scenario_storage.proofs.shown.spaces_of.Given as goal

abbrev pub invariant-loop-room : goal.invariant-loop-room
invariant-loop-room l =
    (spaces_from l.first l.capacities.capacities ≡ l.spaces ++ spaces_from l.next (drop l.room-index l.capacities.capacities))
    × (l.next ≤ l.first + l.room-index)
