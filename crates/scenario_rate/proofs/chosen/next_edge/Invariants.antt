use Rattle.std.proofs.Common.{MatchOption}
use Rattle.scenario_rate.specs.inside.Choosing.{NoneNext, IsNextEdge}
use Rattle.scenario_rate.proofs.chosen.next_edge.Given as goal

abbrev pub invariant-loop-number : goal.invariant-loop-number
invariant-loop-number l = MatchOption l.best (NoneNext l.edges l.out l.steps l.left l.number-index) (IsNextEdge l.edges l.out l.steps l.left l.number-index)
