use Rattle.std.proofs.Common.{◌≡◌, ◌*◌, ◌<◌, [], length, arith}
use Rattle.std.specs.Prelude.{slice_index_or}
use Rattle.need_loops.proofs.DueRowsAreSelfTimed.{row-at}
use Rattle.need_loops.proofs.FiringsStartApart.{apart-first}
use Rattle.need_loops.proofs.unlike.last_apart.Goals as goal

pub returns-then-earlier-last : goal.returns-then-earlier-last
returns-then-earlier-last g c =
    let row : c.as_slice-row.result.now ≡ slice_index_or c.args.starts.now 0 [] =
    row-at c.args.starts.now 0 c.index-starts-0.result c.as_slice-row.result.now (omega (arith, c.requires.rows, c.know_laws.ensures.some_actor)) c.index-starts-0.is c.as_slice-row.ensures in
    let long : c.args.rounds * c.round.result < length c.as_slice-row.result.now = omega (arith, c.if-row-more.false) in
    rw (row, c.round.ensures) (apart-first (g.F.Firing.net c.args.net.now) c.args.starts.now c.args.after c.args.rounds (omega (arith, c.know_laws.ensures.some_actor))
    (rw (row, c.round.ensures) at long) (rw (row, c.round.ensures) at c.if-after-earlier.true) (rw (row, c.round.ensures) at c.if-earlier-last.true))
