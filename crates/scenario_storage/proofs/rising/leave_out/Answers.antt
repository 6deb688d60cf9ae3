use Rattle.std.proofs.Common.{List, subst, sym, rules}
use Rattle.scenario_storage.specs.declared.point.ScenarioPoint.{ScenarioPoint}
use Rattle.scenario_storage.specs.inside.Points.{AreEarlier, AreRising, EndsAt}
use Rattle.scenario_storage.proofs.PointOrder.{left-all, left-popped}
use Rattle.scenario_storage.proofs.rising.leave_out.Goals as goal

pub ends_at-requires-clause-rising : goal.ends_at-requires-clause-rising
ends_at-requires-clause-rising c = subst AreRising (sym c.as_slice.ensures.value) c.requires.rising

pub returns-then-ends_at : goal.returns-then-ends_at
returns-then-ends_at c =
    left-popped c.args.total c.args.points.now.items c.pop.new.self.items c.pop.result _ (search rules) c.requires.rising
    (subst (λ (ps : List ScenarioPoint). EndsAt c.args.total ps) c.as_slice.ensures.value c.if-ends_at.ensures) c.pop.ensures.items c.pop.ensures.value

pub returns-else-ends_at : goal.returns-else-ends_at
returns-else-ends_at c = left-all c.args.total c.args.points.now.items c.requires.rising (subst (λ (ps : List ScenarioPoint). AreEarlier c.args.total ps) c.as_slice.ensures.value c.if-ends_at.ensures)
