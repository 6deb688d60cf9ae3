use Rattle.need_loops.proofs.RowLoops.{row-loops}
use Rattle.need_loops.proofs.rows.entry_by_rows.Goals as goal

pub returns-then-fewer_differ-clause-loops : goal.returns-then-fewer_differ-clause-loops
returns-then-fewer_differ-clause-loops g c =
    row-loops (g.F.Firing.net c.args.net.now) (g.met.F.Firing.lawful c.args.net.now) c.requires.inputs c.requires.connected c.args.pair.earlier c.args.pair.later c.args.rounds c.requires.order c.requires.some c.args.starts.now c.requires.starts
    c.in_ok-from.from c.in_ok-entry.entry c.in_ok-from.ensures c.in_ok-entry.ensures (c.fewer_differ.ensures c.if-fewer_differ.true)
