use Rattle.std.proofs.Common.{None, ap, arith}
use Rattle.std.proofs.lemmas.Option.{slice_get_within}
use Rattle.std.proofs.lemmas.Result.{err_from_is_err_and}
use Rattle.pareto_search.proofs.FoundTellings.{known-counts}
use Rattle.pareto_search.proofs.DueBecomesPoint.{rate-above, settled-past}
use Rattle.pareto_search.proofs.search.settle.Goals as goal

pub point_at-requires-clause-place : goal.point_at-requires-clause-place
point_at-requires-clause-place g c = slice_get_within c.first_of.new.searching.known.tellings.items c.in_ok-place.place c.in_ok-place.ensures.first.telling c.in_ok-place.ensures.first.at

pub point_at-requires-clause-kept : goal.point_at-requires-clause-kept
point_at-requires-clause-kept g c =
    let net = g.F.Firing.net c.args.base.now.exploring.now.net.now in
    let first = c.in_ok-place.ensures.first in
    let settling = c.in_ok-place.ensures.settling in
    settling.standing.known.kept c.in_ok-place.place first.telling first.at
    (rate-above net c.args.base.now.exploring.now.limits c.args.base.now.corner.now.capacities c.args.base.now.lattice.now c.requires.base.stands c.args.due c.first_of.new.searching settling c.in_ok-place.place first)

pub returns-clause-standing : goal.returns-clause-standing
returns-clause-standing g c =
    let net = g.F.Firing.net c.args.base.now.exploring.now.net.now in
    let first = c.in_ok-place.ensures.first in
    let settling = c.in_ok-place.ensures.settling in
    let of = c.in_ok-point.ensures.point first.telling first.at in
    settled-past net c.args.base.now.exploring.now.limits c.args.base.now.corner.now.capacities c.args.base.now.lattice.now c.requires.base.stands c.args.due c.first_of.new.searching settling c.in_ok-place.place first c.in_ok-point.point of
    (record { bounds = c.first_of.new.searching.bounds; known = _; points = _; below = c.args.due.rate; due = None }) (ap (λ v. v.items) c.point_at.ensures.tellings) c.clear.ensures.items c.in_ok-push.ensures.items

pub returns-in_err-point-clause-most : goal.returns-in_err-point-clause-most
returns-in_err-point-clause-most g c =
    let p = err_from_is_err_and c.from_residual-in_err-point.result c.from_residual-in_err-point.ensures.1 in
    let s = c.first_of.new.searching in
    rw p.1 (λ before was.
    known-counts (g.F.Firing.net c.args.base.now.exploring.now.net.now) c.args.base.now.exploring.now.limits c.args.base.now.corner.now.capacities c.args.base.now.lattice.now s.below s.known c.in_ok-place.ensures.settling.standing.known before c.first_of.new.steps.count
    (omega (arith, was, c.in_ok-place.ensures.count)))

pub returns-in_err-push-clause-most : goal.returns-in_err-push-clause-most
returns-in_err-push-clause-most g c =
    let p = err_from_is_err_and c.from_residual-in_err-push.result c.from_residual-in_err-push.ensures.1 in
    let s = c.first_of.new.searching in
    rw p.1 (λ before was.
    known-counts (g.F.Firing.net c.args.base.now.exploring.now.net.now) c.args.base.now.exploring.now.limits c.args.base.now.corner.now.capacities c.args.base.now.lattice.now s.below s.known c.in_ok-place.ensures.settling.standing.known before c.first_of.new.steps.count
    (omega (arith, was, c.in_ok-place.ensures.count)))
