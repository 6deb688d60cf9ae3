use Rattle.std.proofs.Common.{sym}
use Rattle.firing.proofs.SinglesHaveOneNumber.{single-length}
use Rattle.firing.proofs.sdf.SdfNetFiring.phases.Goals as goal

pub returns : goal.returns
returns c = sym (single-length c.args.self.now.times.items c.args._actor c.requires)
