use Rattle.std.proofs.Common.{arith, rules}
use Rattle.scenario_storage.proofs.PointOrder.{ends-by}
use Rattle.scenario_storage.proofs.rising.ends_at.Goals as goal

pub returns-in-Some : goal.returns-in-Some
returns-in-Some c =
    let last = c.in-Some.last.now in
    ends-by _ c.args.total c.args.points.now last c.requires.rising c.requires.late (omega (arith, c.in-Some.ensures.item.3.0)) (c.in-Some.ensures.item.3.1 last) (search rules)
