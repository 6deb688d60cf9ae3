use Rattle.std.proofs.Common.{refl}
use Rattle.selftimed.specs.Fingerprints.{weight, spread}
use Rattle.selftimed.proofs.tokens.weight_of.Goals as goal

pub returns : goal.returns
unfolding weight spread
returns c = refl
