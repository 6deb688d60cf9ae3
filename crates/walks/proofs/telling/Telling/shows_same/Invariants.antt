use Rattle.std.proofs.Common.{◌≡◌, ℕ, take}
use Rattle.std.specs.Prelude.{All, slice_index}
use Rattle.walks.proofs.telling.Telling.shows_same.Given as goal

abbrev pub invariant-loop-channel : goal.invariant-loop-channel
invariant-loop-channel l = All (λ (c : ℕ). slice_index l.capacities c ≡ slice_index l.evaluated c) (take l.channel-index l.channel-items)
