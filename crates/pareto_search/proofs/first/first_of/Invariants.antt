use Rattle.std.proofs.Common.{◌≡◌, ◌+◌, ◌-◌, ◌≤◌, length}
use Rattle.pareto_search.specs.inside.Firsts.{IsSlower}
use Rattle.pareto_search.specs.inside.Knowledge.{loops_in}
use Rattle.pareto_search.specs.inside.Turns.{EntersOn, IsSettling}
use Rattle.pareto_search.proofs.first.first_of.Given as goal

abbrev pub invariant-looks : goal.invariant-looks
invariant-looks g l = record {
  settling : IsSettling (g.F.Firing.net l.base.exploring.now.net.now) l.base.exploring.now.limits l.base.corner.now.capacities l.base.lattice.now l.due l.searching;
  slower : IsSlower l.base.lattice.now l.due l.searching.known.tellings.items l.slower;
  more : length l.initial.searching.known.tellings.items ≤ length l.searching.known.tellings.items;
  entered : EntersOn (g.F.Firing.net l.base.exploring.now.net.now) l.base.corner.now.capacities (g.G.Gate.entered l.gate) l.initial.searching.known.tellings.items l.searching.known.tellings.items;
  count : l.steps.count + loops_in l.initial.searching.known.tellings.items ≡ l.initial.steps.count + loops_in l.searching.known.tellings.items;
  rises : l.initial.steps.count ≤ l.steps.count;
  share : l.steps.share ≡ l.initial.steps.share;
}

abbrev pub decreases-looks : goal.decreases-looks
decreases-looks g l = l.base.exploring.now.limits.distributions - length l.searching.known.tellings.items
