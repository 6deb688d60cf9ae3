use Rattle.scenario_storage.proofs.LongestWaysAreMarked.{AreMarkedTo}
use Rattle.scenario_storage.proofs.shown.shown_by_cycle.Given as goal

abbrev pub invariant-loop-scenario : goal.invariant-loop-scenario
invariant-loop-scenario l = AreMarkedTo l.plan.file.now l.capacities.capacities l.graph l.cycle l.scenario l.marks.items
