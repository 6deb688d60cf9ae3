use Rattle.std.proofs.Common.{◌≡◌, refl, subst, sym, arith, rules}
use Rattle.bounded_scenarios.proofs.BlockedMembers.{blocked-bounds}
use Rattle.scenario_storage.specs.inside.Shown.{AreShownBlocked}
use Rattle.scenario_storage.proofs.ToldNumbersAreListed.{one-factor}
use Rattle.scenario_storage.proofs.EvaluationsShowRates.{blocked-rated}
use Rattle.scenario_storage.proofs.HeldBackStayBlocked.{stays-blocked}
use Rattle.scenario_storage.proofs.rating.rate_held.Goals as goal

pub returns : goal.returns
returns c = λ best.
    let file = c.args.plan.now.file.now in
    let limit = c.args.plan.now.limits.total in
    let by = c.args.by.now in
    let ds = c.args.capacities.now.capacities in
    let g = c.new.ensures.common in
    let own : c.from_vec.result ≡ c.args.by.now.enlarge = search rules in
    blocked-rated file limit c.requires.plan.bounded ds c.requires.fits best _ blocked-bounds
    (subst (AreShownBlocked file ds) (sym own) (stays-blocked file limit c.requires.plan.bounded by.capacities.capacities by.enlarge ds c.requires.blocked.fits c.requires.fits c.requires.held c.requires.blocked.shown))
    (omega (arith, c.new.ensures.same)) (one-factor g.0 c.new.result.den c.new.result.positive g.2) refl
