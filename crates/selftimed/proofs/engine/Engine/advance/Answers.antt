use Rattle.selftimed.proofs.StepsTellStuck.{answer-stuck, answer-spent}
use Rattle.selftimed.proofs.engine.Engine.advance.Goals as goal

pub returns-in-Fresh-clause-stuck : goal.returns-in-Fresh-clause-stuck
returns-in-Fresh-clause-stuck g c = answer-stuck (g.F.Firing.net c.args.self.now.net.now) (g.met.F.Firing.lawful c.args.self.now.net.now) c.args.self.now.most c.args.self.now.stage c.args.self.now.moment
    c.go_to_start.new.self.stage c.go_to_start.new.self.moment c.go_to_start.result c.go_to_start.ensures.moved

pub returns-in-Fresh-clause-spent : goal.returns-in-Fresh-clause-spent
returns-in-Fresh-clause-spent g c = answer-spent (g.F.Firing.net c.args.self.now.net.now) (g.met.F.Firing.lawful c.args.self.now.net.now) c.args.self.now.most c.args.self.now.stage c.args.self.now.moment
    c.go_to_start.new.self.stage c.go_to_start.new.self.moment c.go_to_start.result c.go_to_start.ensures.moved

pub returns-in-Running-clause-stuck : goal.returns-in-Running-clause-stuck
returns-in-Running-clause-stuck g c = answer-stuck (g.F.Firing.net c.args.self.now.net.now) (g.met.F.Firing.lawful c.args.self.now.net.now) c.args.self.now.most c.args.self.now.stage c.args.self.now.moment
    c.go_on.new.self.stage c.go_on.new.self.moment c.go_on.result c.go_on.ensures.moved

pub returns-in-Running-clause-spent : goal.returns-in-Running-clause-spent
returns-in-Running-clause-spent g c = answer-spent (g.F.Firing.net c.args.self.now.net.now) (g.met.F.Firing.lawful c.args.self.now.net.now) c.args.self.now.most c.args.self.now.stage c.args.self.now.moment
    c.go_on.new.self.stage c.go_on.new.self.moment c.go_on.result c.go_on.ensures.moved
