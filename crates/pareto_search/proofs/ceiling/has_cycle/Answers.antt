use Rattle.std.proofs.Common.{subst, sym, ap, ◌∙◌}
use Rattle.sd_base.specs.Net.{Net}
use Rattle.sd_base.specs.Schedules.{HasInputs}
use Rattle.firing.specs.Wiring.{IsWiringOf}
use Rattle.critical.specs.Unspaced.{IsUnspaced}
use Rattle.guide.specs.Evaluations.{IsEvaluable}
use Rattle.pareto_search.specs.inside.Vectors.{bounded_by}
use Rattle.pareto_search.proofs.UnspacedCyclesBound.{bounds-all}
use Rattle.pareto_search.proofs.WithinLimit.{among-evaluable}
use Rattle.pareto_search.proofs.ceiling.has_cycle.Goals as goal

pub new-requires-clause-none : goal.new-requires-clause-none
new-requires-clause-none g c =
    (among-evaluable (g.F.Firing.net c.args.base.now.exploring.now.net.now) c.args.base.now.exploring.now.limits c.args.base.now.corner.now.capacities c.args.base.now.lattice.now c.requires.stands c.args.telling.now.capacities c.requires.told.among).none

pub new-requires-clause-can : goal.new-requires-clause-can
new-requires-clause-can g c =
    let net = g.F.Firing.net c.args.base.now.exploring.now.net.now in
    let corner = c.args.base.now.corner.now.capacities in
    (subst (IsEvaluable net) (sym (c.in_ok-capacities.ensures ∙ ap (bounded_by corner) c.as_slice.ensures)) (among-evaluable net c.args.base.now.exploring.now.limits corner c.args.base.now.lattice.now c.requires.stands c.args.telling.now.capacities c.requires.told.among)).can

pub new-requires-clause-few : goal.new-requires-clause-few
new-requires-clause-few g c =
    let net = g.F.Firing.net c.args.base.now.exploring.now.net.now in
    let corner = c.args.base.now.corner.now.capacities in
    (subst (IsEvaluable net) (sym (c.in_ok-capacities.ensures ∙ ap (bounded_by corner) c.as_slice.ensures)) (among-evaluable net c.args.base.now.exploring.now.limits corner c.args.base.now.lattice.now c.requires.stands c.args.telling.now.capacities c.requires.told.among)).few

pub invariant_of-wired : goal.invariant_of-wired
invariant_of-wired g c =
    let net = g.F.Firing.net c.args.base.now.exploring.now.net.now in
    let corner = c.args.base.now.corner.now.capacities in
    record {
      wired = subst (λ (n : Net). IsWiringOf n c.args.base.now.exploring.now.wiring.now) (sym c.in_ok-bounded.ensures)
          (c.args.base.now.exploring.now.wired c.in_ok-capacities.capacities.capacities (subst (IsEvaluable net) (sym (c.in_ok-capacities.ensures ∙ ap (bounded_by corner) c.as_slice.ensures)) (among-evaluable net c.args.base.now.exploring.now.limits corner c.args.base.now.lattice.now c.requires.stands c.args.telling.now.capacities c.requires.told.among)).distribution);
    }

pub cycle_without_spaces-requires-clause-inputs : goal.cycle_without_spaces-requires-clause-inputs
cycle_without_spaces-requires-clause-inputs g c =
    let net = g.F.Firing.net c.args.base.now.exploring.now.net.now in
    let corner = c.args.base.now.corner.now.capacities in
    subst HasInputs (sym c.in_ok-bounded.ensures) (subst (IsEvaluable net) (sym (c.in_ok-capacities.ensures ∙ ap (bounded_by corner) c.as_slice.ensures)) (among-evaluable net c.args.base.now.exploring.now.limits corner c.args.base.now.lattice.now c.requires.stands c.args.telling.now.capacities c.requires.told.among)).inputs

pub returns-in-Some : goal.returns-in-Some
returns-in-Some g c = λ is.
    bounds-all c.cycles_bound_the_rate.ensures.rate (g.F.Firing.net c.args.base.now.exploring.now.net.now) c.in_ok-capacities.capacities.capacities c.in-Some.cycle c.args.rate
    (subst (λ (n : Net). IsUnspaced n c.in-Some.cycle) c.in_ok-bounded.ensures (rw c.in-Some.is at c.in_ok-cycle.ensures.unspaced)) (c.is_bound.ensures is)
