use Rattle.std.proofs.Common.{subst, refl, arith}
use Rattle.pareto_front.specs.Offers.{Covers}
use Rattle.pareto_front.specs.declared.point.Point.{Point}
use Rattle.pareto_front.specs.Points.{offer_of}
use Rattle.pareto_front.proofs.PointsTakePlaces.{covered-at, none-covers}
use Rattle.pareto_front.proofs.covers.is_covered.Goals as goal

pub returns-then-covers : goal.returns-then-covers
returns-then-covers c =
    let other = offer_of c.args.other.now in
    let here : Covers (offer_of c.point-item.result) other = c.if-covers.ensures.0 refl in (
      λ h. covered-at c.args.points.now other c.loop-point.point-index c.point-item.result (omega arith) (subst (λ (p : Point). Covers (offer_of p) other) c.point-item.is here),
      λ h. refl,
    )

pub returns : goal.returns
returns c = (
  λ h. cc,
  λ h. absurd (none-covers c.args.points.now (offer_of c.args.other.now) (λ k d below. c.loop-point.invariant k d (omega arith)) h),
)
