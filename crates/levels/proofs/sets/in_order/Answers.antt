use Rattle.levels.proofs.InsertsKeepOrder.{sorted-level}
use Rattle.levels.proofs.sets.in_order.Goals as goal

pub returns-clause-sorted : goal.returns-clause-sorted
returns-clause-sorted g c = sorted-level c.args.set.keys c.in_ok-visits.visits.items c.sort_unstable.new.self.items c.in_ok-visits.ensures c.requires c.sort_unstable.ensures.permutation c.sort_unstable.ensures.sorted
