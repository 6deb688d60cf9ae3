use Rattle.sd_command.proofs.command_lemmas.PointSchedules.{refused-named}
use Rattle.sd_command.proofs.commands.searches.points_within.Goals as goal

pub refusal_of-requires : goal.refusal_of-requires
refusal_of-requires g c = refused-named c.args.graph.now (g.F.Firing.net c.args.net.now) c.know_laws.ensures c.requires.named c.requires.explorable c.args.limits c.in-Err.error c.in-Err.ensures.refused

pub returns-in_ok-refusal_of-in-Err-clause-does : goal.returns-in_ok-refusal_of-in-Err-clause-does
returns-in_ok-refusal_of-in-Err-clause-does g c = c.in_ok-refusal_of-in-Err.ensures (g.F.Firing.net c.args.net.now) c.in-Err.ensures.refused
