use Rattle.sd_steps.proofs.PartsShowRefusals.{ratio-shown}
use Rattle.sd_steps.proofs.WalkSteps.{ratio_steps}
use Rattle.sd_steps.proofs.balancing.ratio.Goals as goal

pub walk_text-requires : goal.walk_text-requires
walk_text-requires c = ratio_steps _ _ c.requires

pub returns : goal.returns
returns c = ratio-shown _ c.args.path.now _ _ c.requires c.greatest.ensures c.in_ok-walk_text.ensures
