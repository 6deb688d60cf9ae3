use Rattle.std.proofs.Common.{◌*◌, length, ap}
use Rattle.periodic.specs.inside.Passes.{back_start}
use Rattle.periodic.proofs.MovedBack.{back-same, starts-more}
use Rattle.periodic.proofs.passes.least_start.Goals as goal

pub loop-actor-preserved : goal.loop-actor-preserved
loop-actor-preserved c =
    let table = c.args.table.now in
    let pass = c.pass_of-in-loop-actor in
    let up = c.args.most * table.period in
    rw c.min-least.ensures (starts-more table up c.loop-actor.actor c.loop-actor.least c.least.result (length pass.result.starts.now) (back_start pass.result.period pass.result.before pass.result.starts.now up)
    (back-same table up c.loop-actor.actor pass.result.period pass.result.before pass.result.starts.now pass.ensures.period pass.ensures.before pass.ensures.starts) (ap length pass.ensures.starts)
    c.loop-actor.invariant c.least.ensures)
