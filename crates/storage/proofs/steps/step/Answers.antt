use Rattle.std.proofs.Common.{◌≡◌, arith}
use Rattle.sd_base.specs.declared.limits.TheConstants.{RATE}
use Rattle.sd_base.specs.Net.{channel_at}
use Rattle.storage.specs.Steps.{step_of}
use Rattle.storage.proofs.ChannelSteps.{some-step, step-is, step-small}
use Rattle.storage.proofs.steps.step.Goals as goal

pub returns-clause-step : goal.returns-clause-step
returns-clause-step g c = step-is (channel_at (g.F.Firing.net c.args.net.now) c.args.channel) c.port_divisor-made.result c.port_divisor-taken.result c.gcd.result c.gcd.ensures c.port_divisor-made.ensures c.port_divisor-taken.ensures

pub returns-clause-some : goal.returns-clause-some
returns-clause-some g c =
    let is : c.gcd.result ≡ step_of (channel_at (g.F.Firing.net c.args.net.now) c.args.channel) = step-is (channel_at (g.F.Firing.net c.args.net.now) c.args.channel) c.port_divisor-made.result c.port_divisor-taken.result c.gcd.result c.gcd.ensures c.port_divisor-made.ensures c.port_divisor-taken.ensures in
    omega (arith, some-step (channel_at (g.F.Firing.net c.args.net.now) c.args.channel) (c.know_laws.ensures.some_made c.args.channel c.requires))

pub returns-clause-small : goal.returns-clause-small
returns-clause-small g c =
    let is : c.gcd.result ≡ step_of (channel_at (g.F.Firing.net c.args.net.now) c.args.channel) = step-is (channel_at (g.F.Firing.net c.args.net.now) c.args.channel) c.port_divisor-made.result c.port_divisor-taken.result c.gcd.result c.gcd.ensures c.port_divisor-made.ensures c.port_divisor-taken.ensures in
    let few = step-small (channel_at (g.F.Firing.net c.args.net.now) c.args.channel) RATE (c.know_laws.ensures.some_made c.args.channel c.requires) (λ p. c.know_laws.ensures.small_made c.args.channel p c.requires) in
    omega arith
