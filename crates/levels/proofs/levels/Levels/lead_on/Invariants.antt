use Rattle.std.proofs.Common.{◌≡◌, ◌+◌, ◌≤◌, List, length, take}
use Rattle.sd_base.specs.Net.{Channel}
use Rattle.storage.specs.Distributions.{storage_of}
use Rattle.levels.specs.Visits.{led_by}
use Rattle.levels.specs.Frontiers.{AreLedOn, IsOver, IsSame, Rises}
use Rattle.levels.proofs.levels.Levels.lead_on.Given as goal

abbrev pub invariant-loop-channel : goal.invariant-loop-channel
invariant-loop-channel g l =
    ((cs : List Channel) → IsOver cs l.initial.self.channels → l.total ≡ storage_of cs l.from.capacities → Rises cs (led_by l.from.capacities l.enlarge) →
    AreLedOn cs l.initial.self.bounds.total (led_by l.from.capacities (take l.channel-index l.enlarge)) l.hint l.initial.self.waiting l.self.waiting)
    × (l.scratch.capacities ≡ l.from.capacities)
    × (l.self.found + length l.initial.self.waiting ≡ l.initial.self.found + length l.self.waiting)
    × (l.self.found ≤ l.initial.self.bounds.distributions)
    × IsSame l.initial.self l.self
