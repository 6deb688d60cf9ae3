use Rattle.event_loops.proofs.LiveEnginesGoOn.{stuck-never, goes-over}
use Rattle.event_loops.proofs.steps.go_on.Goals as goal

pub unreachable-requires : goal.unreachable-requires
unreachable-requires g c =
    stuck-never (g.F.Firing.net c.args.engine.now.net.now) (g.met.F.Firing.lawful c.args.engine.now.net.now) c.requires.runs.live c.args.engine.now.stage c.advance.new.self.stage c.args.engine.now.most c.args.engine.now.moment c.advance.new.self.moment
    (rw c.in-Stuck.is at c.in_ok-advance.ensures.moved)

pub returns-in-Spent-clause-goes : goal.returns-in-Spent-clause-goes
returns-in-Spent-clause-goes g c =
    goes-over (g.F.Firing.net c.args.engine.now.net.now) (g.met.F.Firing.lawful c.args.engine.now.net.now) c.requires.runs.inputs c.args.engine.now.stage c.advance.new.self.stage c.args.engine.now.most c.args.engine.now.moment c.advance.new.self.moment
    c.requires.stage (rw c.in-Spent.is at c.in_ok-advance.ensures.moved)
