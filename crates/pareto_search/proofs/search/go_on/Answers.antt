use Rattle.std.proofs.Common.{ℕ, ◌<◌, List, length, sym, subst, arith}
use Rattle.std.specs.Prelude.{All}
use Rattle.std.proofs.lemmas.Result.{err_from_is_err_and}
use Rattle.walks.specs.Walks.{AreOnLattice}
use Rattle.walks.specs.declared.telling.Telling.{Telling}
use Rattle.pareto_search.specs.inside.Knowledge.{IsTold}
use Rattle.pareto_search.specs.inside.Stops.{IsGoal, IsStop}
use Rattle.pareto_search.proofs.FoundTellings.{known-counts}
use Rattle.pareto_search.proofs.LevelStops.{level-goals, level-stops}
use Rattle.pareto_search.proofs.WalksReach.{told-on}
use Rattle.pareto_search.proofs.search.go_on.Goals as goal

pub stops_of-requires-clause-some : goal.stops_of-requires-clause-some
stops_of-requires-clause-some g c = subst (λ (vs : List (List ℕ)). 0 < length vs) (sym c.as_slice-2.ensures) c.requires.level.1.some

pub stops_of-requires-clause-tellings : goal.stops_of-requires-clause-tellings
stops_of-requires-clause-tellings g c =
    subst (AreOnLattice c.args.base.now.lattice.now.axes) (sym c.as_slice.ensures.value)
    (told-on (g.F.Firing.net c.args.base.now.exploring.now.net.now) c.args.base.now.exploring.now.limits c.args.base.now.corner.now.capacities c.args.base.now.lattice.now c.args.searching.now.known.tellings.items c.requires.standing.known.told)

pub stops_of-requires-clause-goals : goal.stops_of-requires-clause-goals
stops_of-requires-clause-goals g c =
    let lattice = c.args.base.now.lattice.now in
    let goals : All (IsGoal c.args.base.now.lattice.now c.args.searching.now.known.tellings.items) c.args.level.vectors = level-goals (g.F.Firing.net c.args.base.now.exploring.now.net.now) c.args.base.now.exploring.now.limits c.args.base.now.corner.now.capacities c.args.base.now.lattice.now c.args.searching.now c.args.level c.requires.standing c.requires.level.0 c.requires.level.1 in
    subst (All (IsGoal lattice c.as_slice.result.now)) (sym c.as_slice-2.ensures) (subst (λ (ts : List Telling). All (IsGoal lattice ts) c.args.level.vectors) (sym c.as_slice.ensures.value) goals)

pub returns-in_err-stops-clause-most : goal.returns-in_err-stops-clause-most
returns-in_err-stops-clause-most g c =
    let p = err_from_is_err_and c.from_residual.result c.from_residual.ensures.1 in
    rw p.1 (λ before was.
    known-counts (g.F.Firing.net c.args.base.now.exploring.now.net.now) c.args.base.now.exploring.now.limits c.args.base.now.corner.now.capacities c.args.base.now.lattice.now c.args.searching.now.below c.args.searching.now.known c.requires.standing.known before c.args.steps.now.count
    (omega (arith, was)))

pub learn_from-requires-clause-stops : goal.learn_from-requires-clause-stops
learn_from-requires-clause-stops g c = λ κs outlive.
    let net = g.F.Firing.net c.args.base.now.exploring.now.net.now in
    let limits = c.args.base.now.exploring.now.limits in
    let corner = c.args.base.now.corner.now.capacities in
    let lattice = c.args.base.now.lattice.now in
    let stops = c.in_ok-stops.stops.items in
    let told : All (IsTold net limits corner lattice) c.as_slice.result.now = subst (All (IsTold net limits corner lattice)) (sym c.as_slice.ensures.value) c.requires.standing.known.told in
    let each : All (IsStop net limits corner lattice c.args.searching.now.known.tellings.items c.args.level.vectors) stops
    = subst (λ (ts : List Telling). All (IsStop net limits corner lattice ts c.args.level.vectors) stops) c.as_slice.ensures.value
    (subst (λ (vs : List (List ℕ)). All (IsStop net limits corner lattice c.as_slice.result.now vs) stops) c.as_slice-2.ensures (c.in_ok-stops.ensures.each net limits corner c.requires.base.stands told)) in
    level-stops net limits corner lattice c.args.searching.now c.args.level c.requires.standing c.requires.level.0 c.requires.level.1 stops each c.in_ok-stops.ensures.level (omega (arith, c.in_ok-stops.ensures.some))

pub returns-in_err-keep_ceiling-clause-most : goal.returns-in_err-keep_ceiling-clause-most
returns-in_err-keep_ceiling-clause-most g c =
    let p = err_from_is_err_and c.from_residual-in_err-keep_ceiling.result c.from_residual-in_err-keep_ceiling.ensures.1 in
    let s = c.learn_from.new.searching in
    rw p.1 (λ before was.
    known-counts (g.F.Firing.net c.args.base.now.exploring.now.net.now) c.args.base.now.exploring.now.limits c.args.base.now.corner.now.capacities c.args.base.now.lattice.now s.below s.known c.in_ok-learn_from.ensures.standing.known before c.learn_from.new.steps.count
    (omega (arith, was, c.in_ok-learn_from.ensures.count)))

pub returns-clause-standing : goal.returns-clause-standing
returns-clause-standing g c = c.in_ok-keep_ceiling.ensures.standing c.args.level.storage c.in_ok-learn_from.ensures.standing
