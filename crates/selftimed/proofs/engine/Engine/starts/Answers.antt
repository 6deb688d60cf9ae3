use Rattle.selftimed.proofs.EnginesAnswerSteps.{all-starts}
use Rattle.selftimed.proofs.engine.Engine.starts.Goals as goal

pub returns : goal.returns
returns g c = all-starts (g.F.Firing.net c.args.self.now.net.now) (g.met.F.Firing.lawful c.args.self.now.net.now) c.args.self.now.moment c.args.self.now.most c.args.self.now.actors.items c.args.self.now.tokens c.args.self.now.all (c.args.self.now.stands c.requires)
