use Rattle.std.proofs.Common.{refl, arith}
use Rattle.levels.proofs.ChildrenWaitOnce.{added-alone}
use Rattle.levels.proofs.SearchesSpread.{begun-one}
use Rattle.levels.proofs.levels.Levels.begin.Goals as goal

pub returns-clause-frontier : goal.returns-clause-frontier
returns-clause-frontier g c = λ cs over total.
    begun-one cs c.args.start.capacities _ _ refl total (omega (arith, total, c.if-total-bounds.false)) over (added-alone _ c.new-waiting.result _ c.new-waiting.ensures c.in_ok-put.ensures) refl c.requires
