use Rattle.std.proofs.Common.{refl}
use Rattle.selftimed.specs.Fingerprints.{weighed_from}
use Rattle.selftimed.proofs.tokens.Tokens.new.Goals as goal

pub invariant_of-result : goal.invariant_of-result
unfolding weighed_from
invariant_of-result c = rw c.new.ensures.items refl
