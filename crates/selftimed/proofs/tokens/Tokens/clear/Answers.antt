use Rattle.std.proofs.Common.{refl}
use Rattle.selftimed.specs.Fingerprints.{weighed_from}
use Rattle.selftimed.proofs.tokens.Tokens.clear.Goals as goal

pub invariant_of-self : goal.invariant_of-self
unfolding weighed_from
invariant_of-self c = rw c.clear.ensures.items refl
