use Rattle.std.proofs.Common.{arith}
use Rattle.need_loops.proofs.RowLoops.{time-is, end-there}
use Rattle.need_loops.proofs.rows.ends_at.Goals as goal

pub returns-then-count-ne0 : goal.returns-then-count-ne0
returns-then-count-ne0 g c =
    end-there (g.F.Firing.net c.args.net.now) c.args.actor c.time-time.result c.args.row.now
    (time-is (g.F.Firing.net c.args.net.now) c.args.actor c.time-time.result c.requires.single c.time-time.ensures) c.requires.ascend
    c.args.moment c.count_by-count.result c.is_after.result (omega arith) c.count_by-count.ensures (omega (arith, c.if-count-ne0.true)) c.is_after.ensures
