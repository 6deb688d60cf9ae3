use Rattle.std.proofs.Common.{refl}
use Rattle.explore.proofs.TurnsTakeLevels.{next-turn}
use Rattle.explore.proofs.search.next_level.Goals as goal

pub returns-clause-level : goal.returns-clause-level
returns-clause-level g c =
    next-turn (g.F.Firing.net c.args.exploring.now.net.now) c.know_laws.ensures c.requires.exploring.explorable c.args.exploring.now.limits c.requires.exploring.small c.requires.stands.0 c.args.search.now _ c.requires.stands.1 refl refl c.next.ensures.same c.in_ok-found.found
    c.in_ok-found.ensures.level c.in_ok-found.ensures.frontier
