use Rattle.std.proofs.Common.{◌≡◌, ◌∙◌, ◌+◌, ◌++◌, ◌∷◌, List, take, drop, insert, map, refl, sym, ap, inl, inr, subst, add-one, rules}
use Rattle.pareto_front.specs.Offers.{IsCoveredBy}
use Rattle.pareto_front.specs.declared.point.Point.{Point}
use Rattle.pareto_front.specs.Points.{IsOffered, left_points, offer_of, put_point}
use Rattle.pareto_front.proofs.PointsTakePlaces.{cut-inserted, offered-front, put-parts}
use Rattle.pareto_front.proofs.front.put_in.Goals as goal

offered : (c : goal.After-remove_between) → IsOffered c.args.point c.args.points.now.items c.remove_between.new.points.items
offered c =
    let n = c.args.point in
    let ps = c.args.points.now.items in
    let place = c.place_of-place.result in
    let end = c.first_faster-end.result in
    let first : c.as_slice.result.now ≡ ps = search rules in
    let second : c.as_slice-2.result.now ≡ ps = search rules in
    let third : c.as_slice-3.result.now ≡ ps = search rules in
    let inserted : c.insert.new.self.items ≡ insert ps place n = search rules in
    let left : left_points n (drop place ps) ≡ drop end ps = rw third at c.first_faster-end.ensures.left in
    let whole : c.remove_between.new.points.items ≡ take (place + 1) (insert ps place n) ++ drop (end + 1) (insert ps place n) = rw inserted at c.remove_between.ensures in
    let parts : take (place + 1) (insert ps place n) ++ drop (end + 1) (insert ps place n) ≡ take place ps ++ n ∷ drop end ps = rw (add-one, add-one) (cut-inserted n ps place end c.first_faster-end.ensures.after (rw third at c.first_faster-end.ensures.within)) in
    let put : put_point n ps ≡ take place ps ++ n ∷ left_points n (drop place ps) = put-parts n ps place (rw second at c.place_of-place.ensures.within) (rw second at c.place_of-place.ensures.below) (rw second at c.place_of-place.ensures.here) in
    inr (
      λ covered. let there : IsCoveredBy (map offer_of c.as_slice.result.now) (offer_of n) = rw first covered in let no = c.if-is_covered.ensures.1 there in absurd (cc),
      whole ∙ (parts ∙ (ap (λ (xs : List Point). take place ps ++ n ∷ xs) (sym left) ∙ sym put)),
    )

pub returns-clause-offered : goal.returns-clause-offered
returns-clause-offered c = offered c

pub returns-clause-front : goal.returns-clause-front
returns-clause-front c = offered-front c.args.point c.args.points.now.items c.remove_between.new.points.items (offered c)

pub returns-then-is_covered-clause-front : goal.returns-then-is_covered-clause-front
returns-then-is_covered-clause-front c =
    let first : c.as_slice.result.now ≡ c.args.points.now.items = search rules in
    offered-front c.args.point c.args.points.now.items c.args.points.now.items
    (inl (subst (λ (ps : List Point). IsCoveredBy (map offer_of ps) (offer_of c.args.point)) first (c.if-is_covered.ensures.0 refl), refl))
