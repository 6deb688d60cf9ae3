use Rattle.selftimed.proofs.EnginesAnswerSteps.{begun-step}
use Rattle.selftimed.proofs.PortRows.{fresh-ports}
use Rattle.selftimed.proofs.engine.Engine.go_to_start.Goals as goal

pub invariant_of-event-clause-ported : goal.invariant_of-event-clause-ported
invariant_of-event-clause-ported g c = fresh-ports c.args.self.now.stage (g.F.Firing.net c.args.self.now.net.now) c.args.self.now.ports c.args.self.now.ported c.requires

pub returns-clause-moved : goal.returns-clause-moved
returns-clause-moved g c = begun-step (g.F.Firing.net c.args.self.now.net.now) (g.met.F.Firing.lawful c.args.self.now.net.now) c.args.self.now.moment c.args.self.now.most c.args.self.now.stage c.requires
    c.begin.new.actors c.begin.new.tokens c.begin.new.all (rw c.if-not-fits.false at c.in_ok-fits.ensures.fits) c.if-self-eq0.false
