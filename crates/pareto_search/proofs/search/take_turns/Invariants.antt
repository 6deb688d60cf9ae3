use Rattle.std.proofs.Common.{◌≡◌, ℕ, ◌+◌}
use Rattle.pareto_search.specs.inside.Knowledge.{loops_in}
use Rattle.pareto_search.specs.inside.Turns.{EntersOn, IsStanding, weight}
use Rattle.pareto_search.proofs.search.take_turns.Given as goal

abbrev pub invariant-turns : goal.invariant-turns
invariant-turns g l = record {
  standing : (floor : ℕ) × IsStanding (g.F.Firing.net l.base.exploring.now.net.now) l.base.exploring.now.limits l.base.corner.now.capacities l.base.lattice.now floor l.searching;
  entered : EntersOn (g.F.Firing.net l.base.exploring.now.net.now) l.base.corner.now.capacities (g.G.Gate.entered l.gate) l.initial.searching.known.tellings.items l.searching.known.tellings.items;
  count : l.steps.count ≡ l.initial.steps.count + loops_in l.searching.known.tellings.items;
  share : l.steps.share ≡ l.initial.steps.share;
}

abbrev pub decreases-turns : goal.decreases-turns
decreases-turns g l = weight l.base.exploring.now.limits.distributions l.searching
