use Rattle.std.proofs.Common.{◌∙◌}
use Rattle.firing.proofs.SingleCopies.{copy-is, copy-lawful}
use Rattle.firing.proofs.single.single_phase_copy.Goals as goal

pub net_of_tables-requires : goal.net_of_tables-requires
net_of_tables-requires g c = copy-lawful (g.F.Firing.net c.args.net.now) c.in_ok-times.times.items c.in_ok-rounds.rounds.items c.in_ok-channels.channels.items c.know_laws.ensures c.in_ok-times.ensures c.in_ok-channels.ensures c.in_ok-rounds.ensures

pub returns : goal.returns
returns g c = c.net_of_tables.ensures ∙ copy-is (g.F.Firing.net c.args.net.now) c.in_ok-times.times.items c.in_ok-rounds.rounds.items c.in_ok-channels.channels.items c.in_ok-times.ensures c.in_ok-channels.ensures c.in_ok-rounds.ensures
