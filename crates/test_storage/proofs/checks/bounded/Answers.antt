use Rattle.std.proofs.Common.{◌+◌, ◌≤◌, length, arith, rules}
use Rattle.sd_base.specs.declared.limits.TheConstants.{NET_CHANNELS}
use Rattle.storage.proofs.SpaceChannels.{bound-long}
use Rattle.storage.proofs.NamedCapacities.{spaces-few}
use Rattle.test_storage.proofs.checks.bounded.Goals as goal

pub new-requires-clause-few : goal.new-requires-clause-few
new-requires-clause-few g c =
    let net = g.F.Firing.net c.args.net.now in
    let ds = c.args.capacities.now.capacities in
    let sum : length net.channels + length ds ≤ NET_CHANNELS = search rules in
    omega (arith, sum, bound-long net ds, spaces-few 0 net.channels ds)
