use Rattle.std.proofs.Common.{inr, refl, arith}
use Rattle.scenario_storage.proofs.PointOrder.{last-there}
use Rattle.scenario_storage.proofs.search.best_rate.Goals as goal

pub returns-in-Some : goal.returns-in-Some
returns-in-Some c =
    let last = c.in-Some.point.now in
    inr (c.in-Some.point.now, last-there c.args.points.now last (omega (arith, c.in-Some.ensures.item.3.0)) (c.in-Some.ensures.item.3.1 last), refl)
