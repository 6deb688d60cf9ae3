use Rattle.std.proofs.Common.{◌≡◌}
use Rattle.pareto_search.specs.inside.Turns.{IsAbsorbed, IsOnward}
use Rattle.pareto_search.proofs.searching.Searching.absorb.Given as goal

abbrev pub invariant-loop-place : goal.invariant-loop-place
invariant-loop-place g l = record {
  absorbed : IsAbsorbed (g.F.Firing.net l.base.exploring.now.net.now) l.base.exploring.now.limits l.base.corner.now.capacities l.base.lattice.now l.total l.place l.self;
  onward : IsOnward l.base.lattice.now l.total l.initial.self l.self;
  known : l.self.known ≡ l.initial.self.known;
}
