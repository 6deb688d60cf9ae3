use Rattle.std.proofs.Common.{◌≡◌, take}
use Rattle.selftimed.proofs.shape.tokens_of.Given as goal

abbrev pub invariant-loop-count : goal.invariant-loop-count
invariant-loop-count l = l.rows ≡ take l.count-index l.tokens
