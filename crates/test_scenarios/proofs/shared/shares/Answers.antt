use Rattle.std.proofs.Common.{subst}
use Rattle.test_scenarios.specs.Sharing.{BeginWith}
use Rattle.test_scenarios.proofs.FirstChannelsShare.{begin-shares}
use Rattle.test_scenarios.proofs.shared.shares.Goals as goal

pub returns : goal.returns
returns c = λ holds. begin-shares c.args.shared.now c.args.graph.now (subst (BeginWith c.args.shared.now) c.as_slice.ensures (c.begin_with.ensures holds))
