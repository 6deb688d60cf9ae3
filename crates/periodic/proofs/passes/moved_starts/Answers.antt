use Rattle.std.proofs.Common.{◌*◌, length, ap, ◌∙◌, arith}
use Rattle.sd_base.proofs.ElementsKeepPlaces.{many-more}
use Rattle.periodic.specs.inside.Passes.{back_start, IsMoved}
use Rattle.periodic.proofs.MovedBack.{back-same, row-moved, rows-more}
use Rattle.periodic.proofs.passes.moved_starts.Goals as goal

pub loop-actor-preserved : goal.loop-actor-preserved
loop-actor-preserved c =
    let table = c.args.table.now in
    let pass = c.pass_of.result in
    let up = c.most_turns-most.result * table.period in
    let down = c.least_start-down.result in
    let same = back-same table up c.loop-actor.actor pass.period pass.before pass.starts.now c.pass_of.ensures.period c.pass_of.ensures.before c.pass_of.ensures.starts in
    let moved : IsMoved table up down c.loop-actor.actor c.in_ok-row.field-0 =
    row-moved table up down (length table.starts) c.loop-actor.actor (length pass.starts.now) (back_start pass.period pass.before pass.starts.now up) c.in_ok-row.field-0 c.least_start-down.ensures
    (omega (arith, c.loop-actor-test.true, c.len-actor-end.ensures)) same (ap length c.pass_of.ensures.starts) c.in_ok-row.ensures.row c.in_ok-row.ensures.small in
    record {
      actors = many-more c.loop-actor.rows.items c.push_reserved.new.self.items c.in_ok-row.field-0 c.loop-actor.actor c.loop-actor.invariant.actors c.push_reserved.ensures.items;
      len = omega (arith, c.push_reserved.ensures.len, c.loop-actor.invariant.len);
      room = c.push_reserved.ensures.capacity ∙ c.loop-actor.invariant.room;
      each = rows-more table up down c.loop-actor.actor c.loop-actor.rows.items c.push_reserved.new.self.items c.in_ok-row.field-0 c.loop-actor.invariant.actors c.loop-actor.invariant.each moved c.push_reserved.ensures.items;
    }
