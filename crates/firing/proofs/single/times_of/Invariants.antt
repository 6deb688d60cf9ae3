use Rattle.std.proofs.Common.{◌≡◌, [], ◌∷◌, map, take}
use Rattle.firing.proofs.single.times_of.Given as goal

abbrev pub invariant-loop-actor : goal.invariant-loop-actor
invariant-loop-actor g l = map (λ t. t ∷ []) l.times.items ≡ take l.actor (g.F.Firing.net l.net).times
