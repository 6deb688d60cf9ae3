use Rattle.automaton.proofs.KeptMatricesSuffice.{NoneRuns}
use Rattle.automaton.proofs.keeping.is_run.Given as goal

abbrev pub invariant-loop-state : goal.invariant-loop-state
invariant-loop-state l = NoneRuns l.file.states l.scenario l.state-index
