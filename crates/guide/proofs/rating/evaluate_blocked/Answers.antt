use Rattle.std.proofs.Common.{◌≡◌, ℕ, List, slice_index, subst, arith, rules}
use Rattle.std.specs.Prelude.{◌↔◌, Contains}
use Rattle.storage.specs.ShownSpaces.{ShowsSpace}
use Rattle.guide.proofs.BlockedNetsAreEvaluated.{blocked-evaluated}
use Rattle.guide.proofs.rating.evaluate_blocked.Goals as goal

pub returns-clause-evaluated : goal.returns-clause-evaluated
returns-clause-evaluated g c = λ states.
    let net = g.F.Firing.net c.args.net.now in
    let ds = c.args.capacities.now.capacities in
    let zero_rate : c.new.result.num ≡ 0 = omega (arith, c.new.ensures.same) in
    let same : c.as_slice.result.now ≡ c.args.counts = search rules in
    let shows : (i : ℕ) → Contains c.in_ok-enlarge.enlarge i ↔ ShowsSpace net ds (slice_index c.args.counts) i =
    subst (λ (xs : List ℕ). (i : ℕ) → Contains c.in_ok-enlarge.enlarge i ↔ ShowsSpace net ds (slice_index xs) i) same c.in_ok-enlarge.ensures.shown in
    blocked-evaluated net c.know_laws.ensures ds states c.args.counts c.args.lacks c.new.result c.in_ok-enlarge.enlarge c.requires.fits c.requires.blocked zero_rate c.in_ok-enlarge.ensures.rising shows
