use Rattle.sd_steps.proofs.PartsShowRefusals.{apart-shown}
use Rattle.sd_steps.proofs.balancing.apart.Goals as goal

pub returns : goal.returns
returns c = apart-shown _ c.args.a c.args.b _ _ c.requires.cause c.in_ok-name_of.ensures c.in_ok-name_of-2.ensures
