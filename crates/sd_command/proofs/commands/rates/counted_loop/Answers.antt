use Rattle.sd_steps.proofs.PathsConnectNets.{joined-connected, fed-inputs}
use Rattle.sd_command.proofs.commands.rates.counted_loop.Goals as goal

pub find_loop-requires-clause-connected : goal.find_loop-requires-clause-connected
find_loop-requires-clause-connected g c = joined-connected _ c.know_laws.ensures c.requires.joined

pub find_loop-requires-clause-inputs : goal.find_loop-requires-clause-inputs
find_loop-requires-clause-inputs g c = fed-inputs (g.F.Firing.net c.args.wired.now.net.now) c.requires.fed
