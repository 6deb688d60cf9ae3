use Rattle.std.proofs.Common.{◌≡◌, ℕ, ◌<◌, Some}
use Rattle.std.specs.Prelude.{slice_get}
use Rattle.balance.specs.declared.walk.Link.{Link}
use Rattle.balance.specs.inside.Ratios.{Keeps}
use Rattle.balance.proofs.ratio.first_failing.Given as goal

abbrev pub invariant-loop-channel : goal.invariant-loop-channel
invariant-loop-channel l = (k : ℕ) (m : Link) → k < l.channel → slice_get l.links k ≡ Some m → Keeps l.ratios m
