use Rattle.std.proofs.Common.{◌≡◌, ◌<◌, [], length, arith}
use Rattle.std.specs.Prelude.{slice_index_or}
use Rattle.need_loops.proofs.DueRowsAreSelfTimed.{row-at}
use Rattle.need_loops.proofs.FiringsStartApart.{differ-from}
use Rattle.need_loops.proofs.unlike.differ.Goals as goal

pub returns-in-Some-other_than : goal.returns-in-Some-other_than
returns-in-Some-other_than g c = λ yes.
    let actor : c.loop-actor.actor < length (g.F.Firing.net c.args.net.now).times = omega (arith, c.loop-actor-test.true, c.actors-actor-end.ensures) in
    let row : c.as_slice-row.result.now ≡ slice_index_or c.args.starts.now c.loop-actor.actor [] =
    row-at c.args.starts.now c.loop-actor.actor c.index-starts-actor.result c.as_slice-row.result.now (omega (arith, c.requires.rows)) c.index-starts-actor.is c.as_slice-row.ensures in
    differ-from (g.F.Firing.net c.args.net.now) c.args.starts.now c.args.after c.args.rounds c.in-Some.apart c.loop-actor.actor c.in-Some-other_than._firing c.in-Some.ensures actor
    (rw row at c.in-Some-other_than.ensures.within) (rw c.round.ensures at c.in-Some-other_than.ensures.back)
    (rw (row, c.round.ensures) at c.in-Some-other_than.ensures.late) (rw (row, c.round.ensures) at c.in-Some-other_than.ensures.unlike)
