use Rattle.std.proofs.Common.{◌≡◌, replicate}
use Rattle.firing.proofs.phases.ones.Given as goal

abbrev pub invariant-loop-phase : goal.invariant-loop-phase
invariant-loop-phase l = l.rates.items ≡ replicate l._phase 1
