use Rattle.scenario_storage.proofs.ScenariosHaveRounds.{AreRoundsTo}
use Rattle.scenario_storage.proofs.search.gammas_of.Given as goal

abbrev pub invariant-loop-scenario : goal.invariant-loop-scenario
invariant-loop-scenario l = AreRoundsTo l.file l.scenario-index l.gammas
