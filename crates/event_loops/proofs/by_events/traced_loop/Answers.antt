use Rattle.std.proofs.Common.{◌+◌, ◌≤◌, arith}
use Rattle.sd_base.proofs.LoopRates.{table-rate}
use Rattle.loops.proofs.RanksRise.{rank-rises, starts-rise}
use Rattle.event_loops.proofs.by_events.traced_loop.Goals as goal

pub returns : goal.returns
returns g c states number =
    let table = c.in_ok-table.table in
    let soon : table.entry + table.period ≤ c.args.pair.later = omega (arith, c.in_ok-table.ensures.entry, c.in_ok-table.ensures.period, c.entry_of-entry.ensures.before, c.requires.pair.order) in
    record {
      loop = c.in_ok-table.ensures.table;
      number = omega (arith, rank-rises (g.F.Firing.net c.args.net.now) (table.entry + table.period) c.args.pair.later soon, number);
      few = omega (arith, starts-rise (g.F.Firing.net c.args.net.now) (g.met.F.Firing.lawful c.args.net.now) c.requires.inputs (table.entry + table.period) c.args.pair.later soon, c.requires.few);
      rate = table-rate (g.F.Firing.net c.args.net.now) (g.met.F.Firing.lawful c.args.net.now) c.requires.inputs table.entry table.period table.rounds table.before table.starts c.in_ok-table.ensures.table;
    }
