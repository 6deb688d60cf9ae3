use Rattle.std.proofs.Common.{arith, mul-le-mul_left}
use Rattle.critical.proofs.MarkedFiringsRecur.{need-near}
use Rattle.critical.proofs.unspaced.Pass.met_next.Goals as goal

pub overflow_add-result : goal.overflow_add-result
overflow_add-result g c =
    omega (
      arith,
      need-near (g.F.Firing.net c.args.self.now.wired.now.net.now) c.args.self.now.table.now c.requires.pass.short c.args.here.firing c.args.need c.requires.need,
      mul-le-mul_left c.args.need.passes c.requires.pass.short.loop.turns,
    )
