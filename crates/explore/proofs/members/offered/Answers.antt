use Rattle.explore.proofs.MembersStayKnown.{kept-known, left-known}
use Rattle.explore.proofs.members.offered.Goals as goal

pub returns-in-Some-clause-known : goal.returns-in-Some-clause-known
returns-in-Some-clause-known g c = λ states ms es best e evaluated is fastest known.
    kept-known (g.F.Firing.net c.args.exploring.now.net.now) c.args.capacities best e c.args.rated c.args.total c.in-Some.table c.args.front.now _ is c.in-Some.is c.requires c.in_ok-offer-in-Some.ensures.front c.in_ok-offer-in-Some.ensures.points states ms es evaluated known

pub returns-clause-known : goal.returns-clause-known
returns-clause-known g c = λ states ms es best e evaluated is fastest known.
    left-known (g.F.Firing.net c.args.exploring.now.net.now) c.args.capacities best e c.args.rated c.args.total c.args.front.now is c.in-None.is c.requires states ms es evaluated fastest known
