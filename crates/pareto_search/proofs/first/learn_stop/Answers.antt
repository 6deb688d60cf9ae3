use Rattle.std.proofs.Common.{◌≡◌, ℕ, ◌-◌, List, ◌++◌, drop, length, take, sym, ap, ◌∙◌, subst, arith, rules}
use Rattle.std.proofs.lemmas.List.{drop-append-le, drop_all, length-drop, take_all}
use Rattle.std.proofs.lemmas.Result.{err_from_is_err_and}
use Rattle.walks.specs.declared.telling.Telling.{Telling}
use Rattle.pareto_search.specs.inside.Firsts.{IsSlower}
use Rattle.pareto_search.proofs.FoundTellings.{known-counts}
use Rattle.pareto_search.proofs.LevelStops.{stop-alone}
use Rattle.pareto_search.proofs.LearningKeepsTellings.{settling-on}
use Rattle.pareto_search.proofs.first.learn_stop.Goals as goal

pub learn_from-requires-clause-stops : goal.learn_from-requires-clause-stops
learn_from-requires-clause-stops g c = λ κs outlive.
    stop-alone (g.F.Firing.net c.args.base.now.exploring.now.net.now) c.args.base.now.exploring.now.limits c.args.base.now.corner.now.capacities c.args.base.now.lattice.now c.requires.base.stands c.args.searching.now.known.tellings.items c.requires.settling.standing.known.told c.args.due.total c.args.stop c.requires.stop c.in_ok-stops.stops.items c.in_ok-stops.ensures

pub returns-clause-settling : goal.returns-clause-settling
returns-clause-settling g c =
    settling-on (g.F.Firing.net c.args.base.now.exploring.now.net.now) c.args.base.now.exploring.now.limits c.args.base.now.corner.now.capacities c.args.base.now.lattice.now c.requires.base.stands c.args.due c.args.searching.now c.learn_from.new.searching c.requires.settling c.in_ok-learn_from.ensures.onward c.in_ok-learn_from.ensures.standing

pub returns-in_err-stops-clause-most : goal.returns-in_err-stops-clause-most
returns-in_err-stops-clause-most g c =
    let p = err_from_is_err_and c.from_residual.result c.from_residual.ensures.1 in
    rw p.1 (λ before was.
    known-counts (g.F.Firing.net c.args.base.now.exploring.now.net.now) c.args.base.now.exploring.now.limits c.args.base.now.corner.now.capacities c.args.base.now.lattice.now c.args.searching.now.below c.args.searching.now.known c.requires.settling.standing.known before c.args.steps.now.count
    (omega (arith, was)))

pub returns-in_err-add_slower-clause-most : goal.returns-in_err-add_slower-clause-most
returns-in_err-add_slower-clause-most g c =
    let p = err_from_is_err_and c.from_residual-in_err-add_slower.result c.from_residual-in_err-add_slower.ensures.1 in
    rw p.1 (λ before was.
    known-counts (g.F.Firing.net c.args.base.now.exploring.now.net.now) c.args.base.now.exploring.now.limits c.args.base.now.corner.now.capacities c.args.base.now.lattice.now c.learn_from.new.searching.below c.learn_from.new.searching.known c.in_ok-learn_from.ensures.standing.known before c.learn_from.new.steps.count
    (omega (arith, was, c.in_ok-learn_from.ensures.count)))

pub returns-clause-slower : goal.returns-clause-slower
returns-clause-slower g c =
    let old = c.args.searching.now.known.tellings.items in
    let more = c.in_ok-learn_from.ensures.onward.tellings in
    let from : c.len-from.result ≡ length c.args.searching.now.known.tellings.items = search rules in
    let rest : drop (length c.args.searching.now.known.tellings.items) c.learn_from.new.searching.known.tellings.items ≡ more.0
    = ap (drop (length old)) more.1 ∙ (drop-append-le (length old) old more.0 (omega arith) ∙ ap (λ (xs : List Telling). xs ++ more.0) (drop_all (length old) old (omega arith))) in
    let tail = drop c.len-from.result c.as_slice.result.now in
    let whole : take (length c.as_slice.result.now - c.len-from.result) (drop c.len-from.result c.as_slice.result.now) ≡ drop c.len-from.result c.as_slice.result.now
    = take_all (length c.as_slice.result.now - c.len-from.result) tail (omega (arith, length-drop c.len-from.result c.as_slice.result.now)) in
    let all : old ++ take (length c.as_slice.result.now - c.len-from.result) (drop c.len-from.result c.as_slice.result.now) ≡ c.learn_from.new.searching.known.tellings.items
    = ap (λ (xs : List Telling). old ++ xs) whole
    ∙ (ap (λ (n : ℕ). old ++ drop n c.as_slice.result.now) from
    ∙ (ap (λ (xs : List Telling). old ++ drop (length old) xs) c.as_slice.ensures.value
    ∙ (ap (λ (xs : List Telling). old ++ xs) rest ∙ sym more.1))) in
    subst (λ (ts : List Telling). IsSlower c.args.base.now.lattice.now c.args.due ts c.add_slower.new.slower) all (c.in_ok-add_slower.ensures c.args.base.now.lattice.now old c.requires.slower)
