use Rattle.guide.proofs.MoreRoom.{same-wiring}
use Rattle.guide.proofs.laws.distributions_share_a_wiring.Goals as goal

pub returns : goal.returns
returns c = same-wiring
