use Rattle.std.proofs.Common.{arith}
use Rattle.entry_ways.proofs.ColumnSteps.{round-small}
use Rattle.entry_ways.proofs.way.round_of.Goals as goal

pub returns-clause-small : goal.returns-clause-small
returns-clause-small g c = omega (arith, c.round.ensures, round-small (g.F.Firing.net c.args.net.now) c.know_laws.ensures c.args.actor c.requires)
