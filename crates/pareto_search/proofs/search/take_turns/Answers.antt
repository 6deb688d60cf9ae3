use Rattle.std.proofs.Common.{Bool, subst, arith}
use Rattle.pareto_search.specs.inside.Turns.{IsOver, IsTurned}
use Rattle.pareto_search.proofs.FoundTellings.{known-counts}
use Rattle.pareto_search.proofs.search.take_turns.Goals as goal

pub returns-clause-most : goal.returns-clause-most
returns-clause-most g c =
    let net = g.F.Firing.net c.args.base.now.exploring.now.net.now in
    let limits = c.args.base.now.exploring.now.limits in
    let corner = c.args.base.now.corner.now.capacities in
    let lattice = c.args.base.now.lattice.now in
    let s = c.take_turn.new.searching in
    let over : IsOver net limits corner lattice s = subst (λ (more : Bool). IsTurned net limits corner lattice c.turns.searching s more) c.if-branch.false c.in_ok-take_turn.ensures.turned in
    known-counts net limits corner lattice s.below s.known over.standing.known c.args.steps.now.count c.take_turn.new.steps.count (omega (arith, c.turns.invariant.count, c.in_ok-take_turn.ensures.count))

pub returns-clause-entered : goal.returns-clause-entered
returns-clause-entered g c = λ before. c.in_ok-take_turn.ensures.entered (c.turns.invariant.entered before)
