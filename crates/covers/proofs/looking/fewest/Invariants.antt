use Rattle.std.proofs.Common.{◌≡◌}
use Rattle.std.specs.Prelude.{Contains, MatchOption}
use Rattle.covers.proofs.looking.fewest.Given as goal

abbrev pub invariant-loop-toll : goal.invariant-loop-toll
invariant-loop-toll l = MatchOption l.found (l.toll-index ≡ 0) (Contains l.tolls)
