use Rattle.firing.proofs.SdfTables.{one_made, one_taken, one_own, plain-lawful}
use Rattle.firing.proofs.sdf.SdfNet.new.Goals as goal

pub net_channels-requires-clause-made : goal.net_channels-requires-clause-made
net_channels-requires-clause-made c = one_made c.args.graph.now c.requires.rules c.requires.kind

pub net_channels-requires-clause-taken : goal.net_channels-requires-clause-taken
net_channels-requires-clause-taken c = one_taken c.args.graph.now c.requires.rules c.requires.kind

pub net_channels-requires-clause-own : goal.net_channels-requires-clause-own
net_channels-requires-clause-own c = one_own c.args.graph.now c.requires.rules c.requires.kind

pub invariant_of-result : goal.invariant_of-result
invariant_of-result c = record {
  laws = plain-lawful c.args.graph.now c.args.gamma.now c.args.no_overlap c.in_ok-times.times.items c.in_ok-rounds.rounds.items c.in_ok-channels.channels.items
      c.requires.rules c.requires.timed c.requires.gamma c.requires.small c.in_ok-times.ensures c.in_ok-channels.ensures c.in_ok-rounds.ensures.items;
}
