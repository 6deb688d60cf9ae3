use Rattle.std.proofs.Common.{◌∙◌, ap}
use Rattle.std.specs.List.{range_with_len}
use Rattle.selftimed.proofs.EnginesAnswerSteps.{new-fresh, new-event_queue}
use Rattle.selftimed.proofs.engine.begin_anew.Goals as goal

pub returns-clause-fresh : goal.returns-clause-fresh
returns-clause-fresh g c most = new-fresh (g.F.Firing.net c.args.wired.now.net.now) (g.met.F.Firing.lawful c.args.wired.now.net.now) most c.refresh.new.actors.items c.refill.new.self (rw (← c.actors-count.ensures) c.in_ok-refresh.ensures) c.in_ok-refill.ensures

pub returns-clause-waits : goal.returns-clause-waits
returns-clause-waits g c = new-event_queue (g.F.Firing.net c.args.wired.now.net.now) c.refresh.new.actors.items c.refill-2.new.self.ends c.refill-2.new.self.touched.items (rw (← c.actors-count.ensures) c.in_ok-refresh.ensures)
    c.in_ok-refill-2.ensures.ends (c.in_ok-refill-2.ensures.touched ∙ ap (range_with_len 0) c.actors-count.ensures)
