use Rattle.critical.proofs.LoopsAreShort.{short-loop}
use Rattle.critical.proofs.find.critical_cycle.Goals as goal

pub walk_back-requires : goal.walk_back-requires
walk_back-requires g c = short-loop (g.F.Firing.net c.args.wired.now.net.now) c.args.table.now c.know_laws.ensures c.requires.inputs c.requires.table c.requires.few

pub closed_cycle-requires-clause-table : goal.closed_cycle-requires-clause-table
closed_cycle-requires-clause-table g c = short-loop (g.F.Firing.net c.args.wired.now.net.now) c.args.table.now c.know_laws.ensures c.requires.inputs c.requires.table c.requires.few
