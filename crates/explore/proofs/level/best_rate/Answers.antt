use Rattle.std.proofs.Common.{◌-◌, length, inl, inr, refl, subst, sym, arith}
use Rattle.std.specs.Prelude.{Contains}
use Rattle.std.proofs.lemmas.List.Elements.{Contains-get_or}
use Rattle.explore.proofs.level.best_rate.Goals as goal

pub returns-in-Some : goal.returns-in-Some
returns-in-Some c =
    inr (c.in-Some.point.now, subst (Contains c.args.points.now) (sym (c.in-Some.ensures.item.3.1 c.in-Some.point.now)) (Contains-get_or c.args.points.now (length c.args.points.now - 1) c.in-Some.point.now (omega (arith, c.in-Some.ensures.item.3.0))), refl)

pub returns-in-None : goal.returns-in-None
returns-in-None c = inl (omega (arith, c.new.ensures.same))
