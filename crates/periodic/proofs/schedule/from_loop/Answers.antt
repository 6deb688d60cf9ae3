use Rattle.std.proofs.Common.{refl}
use Rattle.periodic.proofs.LoopStarts.{has-passes, loop-schedule, moved-small}
use Rattle.periodic.proofs.LoopsHold.{loop_holds}
use Rattle.periodic.proofs.schedule.from_loop.Goals as goal

pub moved_starts-requires : goal.moved_starts-requires
moved_starts-requires g c = has-passes (g.F.Firing.net c.args.net.now) c.know_laws.ensures c.requires.inputs c.args.table.now c.requires.table c.requires.few

pub returns : goal.returns
returns g c =
    let net = g.F.Firing.net c.args.net.now in
    let table = c.args.table.now in
    let rows = c.in_ok-moved_starts.field-0 in
    let back = c.in_ok-moved_starts.ensures in
    let loop = loop-schedule net c.know_laws.ensures c.requires.inputs table c.requires.table rows back in
    record {
      period = refl;
      rounds = refl;
      loop = loop;
      holds = loop_holds net table.entry table.period table.rounds table.before table.starts rows c.know_laws.ensures c.requires.inputs c.requires.table loop;
      small = moved-small net c.know_laws.ensures c.requires.inputs table c.requires.table rows back;
    }
