use Rattle.std.proofs.Common.{◌<◌, ℕ, slice_index}
use Rattle.std.specs.Prelude.{◌↔◌, Contains}
use Rattle.scenario_storage.specs.inside.Shown.{IsWaitedFor}
use Rattle.scenario_storage.proofs.shown.held_up.Given as goal

abbrev pub invariant-loop-place : goal.invariant-loop-place
invariant-loop-place g l = (c : ℕ) → Contains l.shown c ↔ ((c < l.place) × IsWaitedFor (g.F.Firing.net l.net) (g.F.Firing.net l.bounded) l.spaces (slice_index l.counts) c)
