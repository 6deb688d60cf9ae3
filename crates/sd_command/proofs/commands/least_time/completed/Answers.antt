use Rattle.sd_steps.proofs.PathsConnectNets.{joined-connected, fed-inputs}
use Rattle.sd_command.proofs.commands.least_time.completed.Goals as goal

pub complete_wired-requires-clause-connected : goal.complete_wired-requires-clause-connected
complete_wired-requires-clause-connected g c = joined-connected _ c.know_laws.ensures c.requires.joined

pub complete_wired-requires-clause-inputs : goal.complete_wired-requires-clause-inputs
complete_wired-requires-clause-inputs g c = fed-inputs (g.F.Firing.net c.args.wired.now.net.now) c.requires.fed
