use Rattle.std.proofs.Common.{arith}
use Rattle.scenario_storage.proofs.PointOrder.{above-by}
use Rattle.scenario_storage.proofs.rising.is_above.Goals as goal

pub returns-in-Some : goal.returns-in-Some
returns-in-Some c =
    let ps = c.args.points.now in
    let last = c.in-Some.last.now in
    above-by c.is_slower.result c.args.rate ps last c.requires (omega (arith, c.in-Some.ensures.item.3.0)) (c.in-Some.ensures.item.3.1 last) c.is_slower.ensures
