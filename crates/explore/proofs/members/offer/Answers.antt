use Rattle.std.proofs.Common.{◌≡◌, false, inl, inr, ⊎_elim, sym, ap, ◌∙◌}
use Rattle.std.specs.Prelude.{◌==◌, Contains}
use Rattle.storage.specs.declared.distribution.Distribution.{Distribution}
use Rattle.pareto_front.specs.declared.point.Point.{Point}
use Rattle.explore.specs.inside.Searches.{offers_at}
use Rattle.explore.proofs.MembersStayKnown.{front-as, offered-one, offers-some}
use Rattle.explore.proofs.members.offer.Goals as goal

pub returns-clause-front : goal.returns-clause-front
returns-clause-front c = λ os was.
    let some : (c.args.rate.num == 0) ≡ false = sym c.is_zero.ensures ∙ c.if-is_zero.false in
    let same : offers_at c.args.total c.args.rate c.in_ok-capacities.capacities.capacities ≡ offers_at c.args.total c.args.rate c.args.capacities.now.capacities = ap (λ (d : Distribution). offers_at c.args.total c.args.rate d.capacities) c.in_ok-capacities.ensures in
    let one = offers-some c.args.total c.args.rate c.in_ok-capacities.capacities.capacities some in
    front-as os _ _ _ (sym one ∙ same) (c.in_ok-offer.ensures.front os was)

pub returns-clause-points : goal.returns-clause-points
returns-clause-points c = λ p one.
    let point : Point = record { total = c.args.total; rate = c.args.rate; capacities = c.in_ok-capacities.capacities; table = c.args.table } in
    ⊎_elim
    (λ (same : point ≡ p). inl (sym (ap (λ (q : Point). q.capacities) same) ∙ c.in_ok-capacities.ensures, sym (ap (λ (q : Point). q.table) same)))
    (λ (old : Contains c.args.front.now p). inr old)
    (offered-one point c.args.front.now _ p c.in_ok-offer.ensures.offered one)
