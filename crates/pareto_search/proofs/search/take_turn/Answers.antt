use Rattle.std.proofs.Common.{subst, arith}
use Rattle.std.proofs.lemmas.Result.{err_from_is_err_and}
use Rattle.covers.specs.Searches.{IsAnswer, IsLevel}
use Rattle.pareto_search.specs.declared.searching.Searching.{Searching}
use Rattle.pareto_search.specs.inside.Turns.{IsStanding}
use Rattle.pareto_search.proofs.FoundTellings.{known-counts}
use Rattle.pareto_search.proofs.LevelAhead.{over-now, settling-now, standing-looked, standing-raised}
use Rattle.pareto_search.proofs.search.take_turn.Goals as goal

pub returns-in_err-found-clause-most : goal.returns-in_err-found-clause-most
returns-in_err-found-clause-most g c =
    let p = err_from_is_err_and c.from_residual.result c.from_residual.ensures.1 in
    rw p.1 (λ before was.
    known-counts (g.F.Firing.net c.args.base.now.exploring.now.net.now) c.args.base.now.exploring.now.limits c.args.base.now.corner.now.capacities c.args.base.now.lattice.now c.args.searching.now.below c.args.searching.now.known c.requires.standing.1.known before c.args.steps.now.count
    (omega (arith, was)))

pub go_on-requires-clause-standing : goal.go_on-requires-clause-standing
go_on-requires-clause-standing g c = λ κs within.
    let net = g.F.Firing.net c.args.base.now.exploring.now.net.now in
    let limits = c.args.base.now.exploring.now.limits in
    let corner = c.args.base.now.corner.now.capacities in
    let lattice = c.args.base.now.lattice.now in
    let s : Searching = record { bounds = c.level.new.self; known = c.args.searching.now.known; points = c.args.searching.now.points; below = c.args.searching.now.below; due = c.args.searching.now.due } in
    let is : IsStanding net limits corner lattice c.requires.standing.0 s = standing-looked net limits corner lattice c.requires.standing.0 c.args.searching.now c.level.new.self c.in_ok-found.ensures.same c.in_ok-found.ensures.searched c.requires.standing.1 in
    let of : IsLevel c.level.new.self 2 c.in-Some.level = subst (IsAnswer c.level.new.self 2) c.in-Some.ensures.0 c.in_ok-found.ensures.answer in
    standing-raised net limits corner lattice c.requires.standing.0 s is 2 c.in-Some.level of c.in_ok-found.found c.in-Some.ensures

pub settle-requires-clause-settling : goal.settle-requires-clause-settling
settle-requires-clause-settling g c = λ κs within.
    let net = g.F.Firing.net c.args.base.now.exploring.now.net.now in
    let limits = c.args.base.now.exploring.now.limits in
    let corner = c.args.base.now.corner.now.capacities in
    let lattice = c.args.base.now.lattice.now in
    let s : Searching = record { bounds = c.level.new.self; known = c.args.searching.now.known; points = c.args.searching.now.points; below = c.args.searching.now.below; due = c.args.searching.now.due } in
    let is : IsStanding net limits corner lattice c.requires.standing.0 s = standing-looked net limits corner lattice c.requires.standing.0 c.args.searching.now c.level.new.self c.in_ok-found.ensures.same c.in_ok-found.ensures.searched c.requires.standing.1 in
    settling-now net limits corner lattice c.requires.standing.0 s is 2 c.in_ok-found.found c.in_ok-found.ensures.answer c.in-Some-due.due c.in-Some-due.is c.in_default.ensures

pub returns-in-None-clause-turned : goal.returns-in-None-clause-turned
returns-in-None-clause-turned g c =
    let net = g.F.Firing.net c.args.base.now.exploring.now.net.now in
    let limits = c.args.base.now.exploring.now.limits in
    let corner = c.args.base.now.corner.now.capacities in
    let lattice = c.args.base.now.lattice.now in
    let s : Searching = record { bounds = c.level.new.self; known = c.args.searching.now.known; points = c.args.searching.now.points; below = c.args.searching.now.below; due = c.args.searching.now.due } in
    let is : IsStanding net limits corner lattice c.requires.standing.0 s = standing-looked net limits corner lattice c.requires.standing.0 c.args.searching.now c.level.new.self c.in_ok-found.ensures.same c.in_ok-found.ensures.searched c.requires.standing.1 in
    over-now net limits corner lattice c.requires.standing.0 s is 2 c.in_ok-found.found c.in_ok-found.ensures.answer c.in-None.is c.in_default.ensures
