use Rattle.std.proofs.Common.{take}
use Rattle.std.specs.Prelude.{All, Contains}
use Rattle.pareto_search.specs.declared.stops.Stop.{Stop}
use Rattle.pareto_search.specs.inside.Stops.{AreLevel, IsMet}
use Rattle.pareto_search.proofs.GoalStops.{IsStopOf}
use Rattle.pareto_search.proofs.stops.stops_of.Given as goal

abbrev pub invariant-loop-goal : goal.invariant-loop-goal
invariant-loop-goal l = record {
  met : All (IsMet l.lattice l.tellings l.stops.items) (take l.goal-index l.goals);
  from : (s : Stop) → Contains l.stops.items s → IsStopOf l.lattice l.tellings l.goals s;
  level : AreLevel l.stops.items;
}
