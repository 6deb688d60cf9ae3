use Rattle.std.proofs.Common.{◌≡◌, take}
use Rattle.selftimed.proofs.shape.same_tokens.Given as goal

abbrev pub invariant-loop-k : goal.invariant-loop-k
invariant-loop-k l = take l.k l.left ≡ take l.k l.right
