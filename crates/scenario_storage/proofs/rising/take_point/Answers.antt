use Rattle.std.proofs.Common.{List, refl, inr, inl, sym, subst}
use Rattle.scenario_storage.specs.declared.point.ScenarioPoint.{ScenarioPoint}
use Rattle.scenario_storage.specs.inside.Points.{AreRising, AreSlower, HasNoSlower}
use Rattle.scenario_storage.proofs.rising.take_point.Goals as goal

pub is_above-requires : goal.is_above-requires
is_above-requires c = subst AreRising (sym c.as_slice.ensures.value) c.requires.rising

pub returns-then-not-is_above : goal.returns-then-not-is_above
returns-then-not-is_above c = inr (refl, subst (λ (ps : List ScenarioPoint). HasNoSlower c.args.point.rate ps) c.as_slice.ensures.value c.if-not-is_above.ensures)

pub returns : goal.returns
returns c = inl (record {
  front = c.leave_out.new.points.items;
  is = c.in_ok-push.ensures.items;
  left = c.leave_out.ensures;
  slower = subst (λ (ps : List ScenarioPoint). AreSlower c.args.point.rate ps) c.as_slice.ensures.value c.if-not-is_above.ensures;
})
