use Rattle.std.proofs.Common.{◌≡◌, length}
use Rattle.need_loops.proofs.growth.no_flags.Given as goal

abbrev pub invariant-loop-actor : goal.invariant-loop-actor
invariant-loop-actor g l = length l.flags.items ≡ l._actor
