use Rattle.selftimed.proofs.FirstStartsAreEarliest.{fresh-lacks, fresh-begins, fresh-starters}
use Rattle.selftimed.proofs.event.Event.begin.Goals as goal

pub start_all-requires-clause-lacks : goal.start_all-requires-clause-lacks
start_all-requires-clause-lacks g c = fresh-lacks (g.F.Firing.net c.args.self.now.net.now) c.know_laws.ensures c.args.self.now.most c.args.actors.now c.args.tokens.now c.args.all.now c.requires.fresh

pub returns-clause-fits : goal.returns-clause-fits
returns-clause-fits g c = fresh-begins (g.F.Firing.net c.args.self.now.net.now) c.know_laws.ensures c.args.self.now.most c.args.actors.now c.start_all.new.actors c.args.tokens.now c.start_all.new.tokens c.args.all.now c.start_all.new.all c.requires.fresh
    c.in_ok-fits.fits (rw c.requires.first at c.in_ok-fits.ensures.started) c.in_ok-fits.ensures.stand c.in_ok-fits.ensures.counted

pub returns-clause-starters : goal.returns-clause-starters
returns-clause-starters g c =
    let begins = fresh-begins (g.F.Firing.net c.args.self.now.net.now) c.know_laws.ensures c.args.self.now.most c.args.actors.now c.start_all.new.actors c.args.tokens.now c.start_all.new.tokens c.args.all.now c.start_all.new.all c.requires.fresh
    c.in_ok-fits.fits (rw c.requires.first at c.in_ok-fits.ensures.started) c.in_ok-fits.ensures.stand c.in_ok-fits.ensures.counted in
    rw c.requires.first (fresh-starters (g.F.Firing.net c.args.self.now.net.now) c.args.self.now.most c.args.actors.now c.start_all.new.actors c.args.tokens.now c.start_all.new.tokens c.start_all.new.event_queue.starters.items c.args.all.now c.start_all.new.all c.requires.fresh
    c.in_ok-fits.fits begins c.in_ok-fits.ensures.starters)
