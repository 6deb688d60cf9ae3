use Rattle.std.proofs.Common.{drop}
use Rattle.std.specs.Prelude.{Contains}
use Rattle.explore.specs.Explorations.{capacities_of}
use Rattle.cert_maker.proofs.points.place_of.Given as goal

-- a member with these capacities stands from the place on
abbrev pub invariant-loop-place : goal.invariant-loop-place
invariant-loop-place l = Contains (drop l.from (capacities_of l.members)) l.capacities.capacities → Contains (drop l.place (capacities_of l.members)) l.capacities.capacities
