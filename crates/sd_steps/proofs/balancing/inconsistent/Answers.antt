use Rattle.sd_steps.proofs.PartsShowRefusals.{inconsistent-shown}
use Rattle.sd_steps.proofs.WalkSteps.{unbalanced_steps}
use Rattle.sd_steps.proofs.balancing.inconsistent.Goals as goal

pub walk_text-requires : goal.walk_text-requires
walk_text-requires c = unbalanced_steps _ _ _ _ c.requires

pub returns : goal.returns
returns c = inconsistent-shown _ c.args.walk.now _ _ _ c.requires c.in_ok-walk_text.ensures
