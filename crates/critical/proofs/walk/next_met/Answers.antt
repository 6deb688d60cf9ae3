use Rattle.std.proofs.Common.{arith, mul-le-mul_left}
use Rattle.critical.proofs.MarkedFiringsRecur.{need-near}
use Rattle.critical.proofs.walk.next_met.Goals as goal

pub overflow_add-result : goal.overflow_add-result
overflow_add-result g c =
    omega (
      arith,
      need-near (g.F.Firing.net c.args.wired.now.net.now) c.args.table.now c.requires.table c.args.here.firing c.tight_need-need.result c.tight_need-need.ensures.need,
      mul-le-mul_left c.tight_need-need.result.passes c.requires.table.loop.turns,
    )
