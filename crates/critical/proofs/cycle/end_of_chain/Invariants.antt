use Rattle.std.proofs.Common.{take}
use Rattle.std.specs.Prelude.{flat_map}
use Rattle.critical.specs.Stretches.{steps_in}
use Rattle.critical.proofs.StretchesGiveSteps.{GoesOn}
use Rattle.critical.proofs.cycle.end_of_chain.Given as goal

abbrev pub invariant-loop-stretch : goal.invariant-loop-stretch
invariant-loop-stretch g l = GoesOn (g.F.Firing.net l.net) l.fn.from (flat_map steps_in (take l.stretch-index l.stretches)) l.end.last l.end.time l.stretch-index
