use Rattle.std.proofs.Common.{◌∙◌}
use Rattle.selftimed.proofs.OwnChannels.{own-none}
use Rattle.selftimed.proofs.starts.Turn.start_from.Goals as goal

pub start_in_turn-requires-clause-others : goal.start_in_turn-requires-clause-others
start_in_turn-requires-clause-others g c = own-none (g.F.Firing.net c.args.self.now.net.now) c.args.self.now.actor c.args.self.now.own c.args.self.now.owned (λ one. c.if-phases-eq1.false (c.phases.ensures ∙ one))
