use Rattle.sd_base.proofs.FileNets.{widened}
use Rattle.firing.proofs.GraphTables.{lawful-as, few_times}
use Rattle.firing.proofs.CsdfTables.{made_are, taken_are, own_are}
use Rattle.firing.proofs.csdf.CsdfNet.new.Goals as goal

pub net_channels-requires-clause-made : goal.net_channels-requires-clause-made
net_channels-requires-clause-made c = made_are c.args.graph.now c.requires.rules

pub net_channels-requires-clause-taken : goal.net_channels-requires-clause-taken
net_channels-requires-clause-taken c = taken_are c.args.graph.now c.requires.rules

pub net_channels-requires-clause-own : goal.net_channels-requires-clause-own
net_channels-requires-clause-own c = own_are c.args.graph.now c.requires.rules

pub invariant_of-result : goal.invariant_of-result
invariant_of-result c = record {
  laws = lawful-as c.args.graph.now c.args.gamma.now c.args.no_overlap _ (widened c.args.graph.now c.requires.rules) c.requires.timed c.requires.gamma c.requires.small (cc (c.in_ok-times.ensures, c.in_ok-channels.ensures, c.in_ok-rounds.ensures.items));
  few = few_times c.args.graph.now c.requires.rules c.requires.timed c.in_ok-times.times.items c.in_ok-times.ensures;
}
