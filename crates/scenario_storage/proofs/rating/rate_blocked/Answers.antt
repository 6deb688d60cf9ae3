use Rattle.std.proofs.Common.{refl, arith}
use Rattle.bounded_scenarios.proofs.BlockedMembers.{blocked-bounds}
use Rattle.scenario_storage.proofs.ToldNumbersAreListed.{one-factor}
use Rattle.scenario_storage.proofs.EvaluationsShowRates.{blocked-rated}
use Rattle.scenario_storage.proofs.rating.rate_blocked.Goals as goal

pub returns : goal.returns
returns c = λ best.
    let g = c.new.ensures.common in
    blocked-rated c.args.plan.now.file.now c.args.plan.now.limits.total c.requires.plan.bounded c.args.capacities.now.capacities c.requires.fits best _ blocked-bounds c.in_ok-enlarge.ensures
    (omega (arith, c.new.ensures.same)) (one-factor g.0 c.new.result.den c.new.result.positive g.2) refl
