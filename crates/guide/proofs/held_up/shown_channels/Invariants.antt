use Rattle.std.proofs.Common.{◌<◌, ℕ, slice_index}
use Rattle.std.specs.Prelude.{◌↔◌, Contains}
use Rattle.critical.specs.Spaces.{IsRising}
use Rattle.storage.specs.ShownSpaces.{ShowsSpace}
use Rattle.guide.proofs.held_up.shown_channels.Given as goal

abbrev pub invariant-loop-channel : goal.invariant-loop-channel
invariant-loop-channel g l =
    IsRising l.shown
    × ((c : ℕ) → Contains l.shown c ↔ ((c < l.channel) × ShowsSpace (g.F.Firing.net l.net) l.capacities.capacities (slice_index l.counts) c))
