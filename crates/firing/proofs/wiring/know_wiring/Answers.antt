use Rattle.firing.proofs.GroupsMakeWirings.{wired-inputs, wired-outputs}
use Rattle.firing.proofs.wiring.know_wiring.Goals as goal

pub returns-clause-inputs : goal.returns-clause-inputs
returns-clause-inputs g c = wired-inputs (g.F.Firing.net c.args.net.now) c.args.wiring.now c.requires

pub returns-clause-outputs : goal.returns-clause-outputs
returns-clause-outputs g c = wired-outputs (g.F.Firing.net c.args.net.now) c.args.wiring.now c.requires
