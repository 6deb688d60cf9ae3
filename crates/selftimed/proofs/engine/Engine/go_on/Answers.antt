use Rattle.selftimed.proofs.EventQueuesTellWhoRuns.{quiet-from, first-from}
use Rattle.selftimed.proofs.EnginesAnswerSteps.{moved-stuck, moved-spent, moved-step}
use Rattle.selftimed.proofs.PortRows.{running-ports}
use Rattle.selftimed.proofs.engine.Engine.go_on.Goals as goal

pub invariant_of-event-clause-ported : goal.invariant_of-event-clause-ported
invariant_of-event-clause-ported g c = running-ports c.args.self.now.stage (g.F.Firing.net c.args.self.now.net.now) c.args.self.now.ports c.args.self.now.ported c.requires

pub returns-in_default-clause-moved : goal.returns-in_default-clause-moved
returns-in_default-clause-moved g c = moved-stuck (g.F.Firing.net c.args.self.now.net.now) (g.met.F.Firing.lawful c.args.self.now.net.now) c.args.self.now.moment c.args.self.now.most c.args.self.now.actors.items c.args.self.now.tokens c.args.self.now.all
    (c.args.self.now.stands c.requires) c.args.self.now.stage c.requires (quiet-from (g.F.Firing.net c.args.self.now.net.now) c.args.self.now.actors.items c.args.self.now.event_queue.ends c.args.self.now.event_queue.touched.items (c.args.self.now.goes c.requires) c.in_default.ensures)

pub returns-then-not-fits-clause-moved : goal.returns-then-not-fits-clause-moved
returns-then-not-fits-clause-moved g c = moved-spent (g.F.Firing.net c.args.self.now.net.now) (g.met.F.Firing.lawful c.args.self.now.net.now) c.args.self.now.moment c.args.self.now.most c.args.self.now.actors.items c.args.self.now.tokens c.args.self.now.all
    (c.args.self.now.stands c.requires) c.in-Some.moment (first-from (g.F.Firing.net c.args.self.now.net.now) c.args.self.now.actors.items c.args.self.now.event_queue.ends c.args.self.now.event_queue.touched.items (c.args.self.now.goes c.requires) c.in-Some.moment c.in-Some.ensures) c.args.self.now.stage c.requires (rw c.if-not-fits.true at c.in_ok-fits.ensures.fits)

pub returns-clause-moved : goal.returns-clause-moved
returns-clause-moved g c = moved-step (g.F.Firing.net c.args.self.now.net.now) (g.met.F.Firing.lawful c.args.self.now.net.now) c.args.self.now.moment c.args.self.now.most c.args.self.now.actors.items c.args.self.now.tokens c.args.self.now.all
    (c.args.self.now.stands c.requires) c.in-Some.moment (first-from (g.F.Firing.net c.args.self.now.net.now) c.args.self.now.actors.items c.args.self.now.event_queue.ends c.args.self.now.event_queue.touched.items (c.args.self.now.goes c.requires) c.in-Some.moment c.in-Some.ensures) c.args.self.now.stage c.requires
    c.follow.new.actors c.follow.new.tokens c.follow.new.all (rw c.if-not-fits.false at c.in_ok-fits.ensures.fits)

pub follow-requires-clause-next : goal.follow-requires-clause-next
follow-requires-clause-next g c = rw c.as_mut_slice.ensures.value
    (first-from (g.F.Firing.net c.args.self.now.net.now) c.args.self.now.actors.items c.args.self.now.event_queue.ends c.args.self.now.event_queue.touched.items (c.args.self.now.goes c.requires) c.in-Some.moment c.in-Some.ensures)
