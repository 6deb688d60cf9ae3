use Rattle.std.proofs.Common.{◌≤◌, length, arith, rules}
use Rattle.test_storage.proofs.FittingEntriesHold.{can-hold}
use Rattle.test_storage.proofs.checks.can_hold.Goals as goal

pub returns-clause-can : goal.returns-clause-can
returns-clause-can g c =
    let cs = (g.F.Firing.net c.args.net.now).channels in
    let ds = c.args.capacities.now.capacities in
    let few : length ds ≤ length cs = search rules in
    let all : length ds ≤ c.loop-channel.channel = search rules in
    λ h. can-hold cs ds few (λ i below. c.loop-channel.invariant i (omega (arith, all)))
