use Rattle.std.proofs.Common.{◌<◌, length}
use Rattle.balance.proofs.WaysReadBack.{IsReadBack}
use Rattle.balance.proofs.way.way_at.Given as goal

abbrev pub invariant-back : goal.invariant-back
invariant-back l = (l.here < length l.found) × IsReadBack l.found l.place l.here l.way.items

abbrev pub decreases-back : goal.decreases-back
decreases-back l = l.here
