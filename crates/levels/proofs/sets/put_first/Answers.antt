use Rattle.levels.proofs.PutsKeepSets.{first-put}
use Rattle.levels.proofs.sets.put_first.Goals as goal

pub returns-clause-sets : goal.returns-clause-sets
returns-clause-sets g c = (first-put c.args.found c.args.sets.now.entries _ c.in_ok-set.set c.requires.sets c.requires.none c.in_ok-set.ensures.keys c.in_ok-set.ensures.differ c.in_ok-insert.ensures.entries).0

pub returns-clause-put : goal.returns-clause-put
returns-clause-put g c = (first-put c.args.found c.args.sets.now.entries _ c.in_ok-set.set c.requires.sets c.requires.none c.in_ok-set.ensures.keys c.in_ok-set.ensures.differ c.in_ok-insert.ensures.entries).1
