use Rattle.std.proofs.Common.{◌≡◌, replicate}
use Rattle.balance.specs.inside.Ratios.{one}
use Rattle.balance.proofs.ratio.ones.Given as goal

abbrev pub invariant-loop-actor : goal.invariant-loop-actor
invariant-loop-actor l = l.ratios.items ≡ replicate l._actor one
