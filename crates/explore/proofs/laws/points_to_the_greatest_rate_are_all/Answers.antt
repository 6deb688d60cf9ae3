use Rattle.std.proofs.Common.{◌*◌, ◌≤◌, map, sym, subst}
use Rattle.std.proofs.lemmas.List.Elements.{at_from_Contains}
use Rattle.sd_base.proofs.ContainedHavePlaces.{contains-map}
use Rattle.storage.specs.ParetoPoints.{Pair, no_pair}
use Rattle.explore.specs.Explorations.{pair_of}
use Rattle.explore.proofs.WholeFronts.{front-up}
use Rattle.explore.proofs.laws.points_to_the_greatest_rate_are_all.Goals as goal

pub returns : goal.returns
returns c = λ net storage limit points p low front among greatest.
    let at = at_from_Contains (map pair_of points) (pair_of p) (contains-map pair_of points p among) in
    front-up net storage limit low (map pair_of points) front at.0 at.1 (λ pair reached.
    let slower : pair.num * p.rate.den ≤ p.rate.num * pair.den = greatest reached.0 pair.num pair.den reached.1.distribution reached.1.rate in
    subst (λ (x : Pair). pair.num * x.den ≤ x.num * pair.den) (sym (at.2 no_pair)) slower)
