use Rattle.std.proofs.Common.{◌+◌, ◌≤◌, arith}
use Rattle.need_loops.proofs.StartsBoundEvents.{starts-in_rows, events-in_rows}
use Rattle.need_loops.proofs.shown.loop_by_rows.Goals as goal

pub returns-in-Some : goal.returns-in-Some
returns-in-Some g c =
    let soon : c.in_ok-table.table.entry + c.in_ok-table.table.period ≤ c.args.pair.later =
    omega (arith, c.in_ok-table.ensures.entry, c.in_ok-table.ensures.period, c.in-Some.ensures.before, c.requires.order) in
    record {
      loop = c.in_ok-table.ensures.table;
      few = starts-in_rows (g.F.Firing.net c.args.net.now) (g.met.F.Firing.lawful c.args.net.now) c.requires.inputs c.args.pair.later c.args.starts.now c.requires.starts (c.in_ok-table.table.entry + c.in_ok-table.table.period) soon;
      number = events-in_rows (g.F.Firing.net c.args.net.now) (g.met.F.Firing.lawful c.args.net.now) c.requires.inputs c.args.pair.later c.args.starts.now c.requires.starts (c.in_ok-table.table.entry + c.in_ok-table.table.period) soon;
    }
