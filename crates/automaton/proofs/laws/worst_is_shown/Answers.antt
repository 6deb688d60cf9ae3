use Rattle.automaton.proofs.CyclesShowWorstRates.{worst_is_shown}
use Rattle.automaton.proofs.laws.worst_is_shown.Goals as goal

pub returns : goal.returns
returns c = worst_is_shown
