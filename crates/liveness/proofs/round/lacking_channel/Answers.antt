use Rattle.liveness.proofs.LacksAreNamed.{name-lack}
use Rattle.liveness.proofs.round.lacking_channel.Goals as goal

pub returns : goal.returns
returns g c =
    name-lack (g.F.Firing.net c.args.wired.now.net.now) c.args.counts.now c.args.tokens.now c.args.actor c.first_lack.result c.requires.level c.requires.closed c.requires.actor
    (rw c.round.ensures at c.if-count-round.false) c.first_lack.ensures
