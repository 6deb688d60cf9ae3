use Rattle.std.proofs.Common.{rules}
use Rattle.storage.proofs.FileChannels.{plain-no_spaces}
use Rattle.storage.proofs.DistributionsShareLaws.{can-hold}
use Rattle.test_explore.proofs.evaluable.is_evaluable.Goals as goal

pub returns : goal.returns
returns g c = λ holds.
    let net = g.F.Firing.net c.args.net.now in
    let ds = c.args.capacities.now.capacities in
    let can = c.is_explorable.ensures (search rules) in
    let distribution = c.is_distribution.ensures.is (search rules) in
    record {
      none = plain-no_spaces net can.plain;
      distribution = distribution;
      can = can-hold net.channels ds c.know_laws.ensures.some_size distribution (c.is_small.ensures holds);
      few = can.few ds distribution;
      connected = can.connected;
      inputs = can.inputs ds distribution;
    }
