use Rattle.std.proofs.Common.{arith}
use Rattle.critical.proofs.WaysTurnToCycles.{raised-small, number-small}
use Rattle.critical.proofs.closing.raised.Goals as goal

pub overflow_mul-result-2 : goal.overflow_mul-result-2
overflow_mul-result-2 g c = rw c.round.ensures (omega (arith, raised-small (g.F.Firing.net c.args.net.now) c.args.table.now c.requires.table c.args.met c.args.passes c.requires.near))

pub overflow_add-result : goal.overflow_add-result
overflow_add-result g c =
    rw c.round.ensures (omega (
      arith,
      raised-small (g.F.Firing.net c.args.net.now) c.args.table.now c.requires.table c.args.met c.args.passes c.requires.near,
      number-small (g.F.Firing.net c.args.net.now) c.args.table.now c.requires.table c.args.met.firing c.requires.second,
    ))
