use Rattle.std.proofs.Common.{arith}
use Rattle.sd_base.specs.Net.{channel_at}
use Rattle.firing.specs.Ports.{rates_at}
use Rattle.firing.proofs.PortSums.{port-split, turns-fit}
use Rattle.firing.proofs.sums.port_sum.Goals as goal

pub overflow_mul-result : goal.overflow_mul-result
overflow_mul-result g c =
    omega (arith, turns-fit c.args.firings c.port_phases-phases.result c.sum_before-turn.result c.sum_before-turn.ensures.small c.requires.few)

pub overflow_add-result : goal.overflow_add-result
overflow_add-result g c =
    omega (arith, turns-fit c.args.firings c.port_phases-phases.result c.sum_before-turn.result c.sum_before-turn.ensures.small c.requires.few, c.sum_before-rest.ensures.small)

pub returns : goal.returns
returns g c = port-split (rates_at c.args.port (channel_at (g.F.Firing.net c.args.net.now) c.args.channel)) c.args.firings c.port_phases-phases.result c.sum_before-turn.result c.sum_before-rest.result
    c.port_phases-phases.ensures.phases c.sum_before-turn.ensures.sum c.sum_before-rest.ensures.sum
