use Rattle.critical.proofs.CriticalCycles.{table-cycle}
use Rattle.critical.proofs.laws.loops_have_a_critical_cycle.Goals as goal

pub returns : goal.returns
returns c = λ net entry period rounds before starts laws fed table. table-cycle net entry period rounds before starts laws fed table
