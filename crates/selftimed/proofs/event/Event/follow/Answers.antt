use Rattle.selftimed.proofs.MovesReachNextEvent.{mid-counted, mid-lacks, moment-small, next-move, next-starters}
use Rattle.selftimed.proofs.event.Event.follow.Goals as goal

pub start_all-requires-clause-counted : goal.start_all-requires-clause-counted
start_all-requires-clause-counted g c = mid-counted (g.F.Firing.net c.args.self.now.net.now) c.know_laws.ensures c.requires.stands.0 c.args.self.now.most c.args.actors.now c.args.tokens.now c.args.all.now c.requires.stands.1
    c.args.self.now.moment c.requires.next c.end_all.new.actors c.in_ok-end_all.ensures.ended

pub start_all-requires-clause-lacks : goal.start_all-requires-clause-lacks
start_all-requires-clause-lacks g c = mid-lacks (g.F.Firing.net c.args.self.now.net.now) c.know_laws.ensures c.requires.stands.0 c.args.self.now.most c.args.actors.now c.args.tokens.now c.args.all.now c.requires.stands.1
    c.args.self.now.moment c.requires.next c.end_all.new.actors c.in_ok-end_all.ensures.ended

pub start_all-requires-clause-soon : goal.start_all-requires-clause-soon
start_all-requires-clause-soon g c = moment-small (g.F.Firing.net c.args.self.now.net.now) c.know_laws.ensures c.requires.stands.0 c.args.self.now.most c.args.actors.now c.args.tokens.now c.args.all.now c.requires.stands.1
    c.args.self.now.moment c.requires.next c.args.self.now.few

pub returns-clause-fits : goal.returns-clause-fits
returns-clause-fits g c = next-move (g.F.Firing.net c.args.self.now.net.now) c.know_laws.ensures c.requires.stands.0 c.args.self.now.most c.args.self.now.moment c.args.actors.now c.end_all.new.actors c.start_all.new.actors c.args.tokens.now c.start_all.new.tokens c.args.all.now c.start_all.new.all
    c.requires.stands.1 c.requires.next c.in_ok-end_all.ensures.ended c.in_ok-fits.fits c.in_ok-fits.ensures.started c.in_ok-fits.ensures.stand c.in_ok-fits.ensures.counted

pub returns-clause-starters : goal.returns-clause-starters
returns-clause-starters g c =
    let moved = next-move (g.F.Firing.net c.args.self.now.net.now) c.know_laws.ensures c.requires.stands.0 c.args.self.now.most c.args.self.now.moment c.args.actors.now c.end_all.new.actors c.start_all.new.actors c.args.tokens.now c.start_all.new.tokens c.args.all.now c.start_all.new.all
    c.requires.stands.1 c.requires.next c.in_ok-end_all.ensures.ended c.in_ok-fits.fits c.in_ok-fits.ensures.started c.in_ok-fits.ensures.stand c.in_ok-fits.ensures.counted in
    next-starters (g.F.Firing.net c.args.self.now.net.now) c.know_laws.ensures c.requires.stands.0 c.args.self.now.most c.args.self.now.moment c.args.actors.now c.end_all.new.actors c.start_all.new.actors c.args.tokens.now c.start_all.new.tokens c.start_all.new.event_queue.starters.items
    c.args.all.now c.start_all.new.all c.requires.stands.1 c.requires.next c.in_ok-end_all.ensures.ended c.in_ok-fits.fits moved c.in_ok-fits.ensures.starters
