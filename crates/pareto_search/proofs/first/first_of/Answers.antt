use Rattle.std.proofs.Common.{◌≡◌, List, sym, ◌∙◌, subst, arith}
use Rattle.std.proofs.lemmas.Result.{err_from_is_err_and}
use Rattle.walks.specs.Walks.{AreOnLattice}
use Rattle.walks.specs.declared.telling.Telling.{Telling}
use Rattle.pareto_search.specs.declared.stops.Reach.TheVariants.{Held, Stopped}
use Rattle.pareto_search.specs.inside.Firsts.{IsLeft, IsLooked, IsSlower}
use Rattle.pareto_search.proofs.FirstFound.{among-back, due-runs, first-held, left, low-there}
use Rattle.pareto_search.proofs.FoundTellings.{known-counts}
use Rattle.pareto_search.proofs.RateOrder.{above-runs}
use Rattle.pareto_search.proofs.WalksReach.{told-on}
use Rattle.pareto_search.proofs.first.first_of.Goals as goal

pub slower_search-requires : goal.slower_search-requires
slower_search-requires g c =
    above-runs c.args.due.rate c.args.searching.now.below
    (due-runs (g.F.Firing.net c.args.base.now.exploring.now.net.now) c.args.base.now.exploring.now.limits c.args.base.now.corner.now.capacities c.args.base.now.lattice.now c.requires.base.stands c.args.due c.args.searching.now c.requires.settling)

pub look-requires : goal.look-requires
look-requires g c = record {
  tellings = subst (AreOnLattice c.args.base.now.lattice.now.axes) (sym c.as_slice-in-looks.ensures.value)
      (told-on (g.F.Firing.net c.args.base.now.exploring.now.net.now) c.args.base.now.exploring.now.limits c.args.base.now.corner.now.capacities c.args.base.now.lattice.now c.looks.searching.known.tellings.items c.looks.invariant.settling.standing.known.told);
  left = subst (λ (ts : List Telling). IsLeft c.args.base.now.lattice.now ts c.looks.slower) (sym c.as_slice-in-looks.ensures.value)
      (left (g.F.Firing.net c.args.base.now.exploring.now.net.now) c.args.base.now.exploring.now.limits c.args.base.now.corner.now.capacities c.args.base.now.lattice.now c.requires.base.stands c.args.due c.looks.searching c.looks.invariant.settling c.looks.slower c.looks.invariant.slower);
}

pub returns-in-Held-clause-first : goal.returns-in-Held-clause-first
returns-in-Held-clause-first g c =
    let told : c.as_slice-in-looks.result.now ≡ c.looks.searching.known.tellings.items = c.as_slice-in-looks.ensures.value in
    let looked : IsLooked c.args.base.now.lattice.now c.looks.searching.known.tellings.items c.look.new.slower (Held c.in-Held.place) = subst (λ (ts : List Telling). IsLooked c.args.base.now.lattice.now ts c.look.new.slower (Held c.in-Held.place)) told (rw c.in-Held.is at c.in_ok-place.ensures.looked) in
    let slower : IsSlower c.args.base.now.lattice.now c.args.due c.looks.searching.known.tellings.items c.look.new.slower
    = subst (λ (ts : List Telling). IsSlower c.args.base.now.lattice.now c.args.due ts c.look.new.slower) told
    (c.in_ok-place.ensures.slower c.args.due (subst (λ (ts : List Telling). IsSlower c.args.base.now.lattice.now c.args.due ts c.looks.slower) (sym told) c.looks.invariant.slower)) in
    first-held (g.F.Firing.net c.args.base.now.exploring.now.net.now) c.args.base.now.exploring.now.limits c.args.base.now.corner.now.capacities c.args.base.now.lattice.now c.requires.base.stands c.args.due c.looks.searching c.looks.invariant.settling c.look.new.slower slower
    looked.goal looked.uncovered looked.first c.in-Held.place looked.reached.0 looked.reached.1 looked.reached.2 looked.reached.3

pub learn_stop-requires-clause-stop : goal.learn_stop-requires-clause-stop
learn_stop-requires-clause-stop g c = λ κs outlive.
    let net = g.F.Firing.net c.args.base.now.exploring.now.net.now in
    let told : c.as_slice-in-looks.result.now ≡ c.looks.searching.known.tellings.items = c.as_slice-in-looks.ensures.value in
    let looked : IsLooked c.args.base.now.lattice.now c.looks.searching.known.tellings.items c.look.new.slower (Stopped c.in-Stopped.stop) = subst (λ (ts : List Telling). IsLooked c.args.base.now.lattice.now ts c.look.new.slower (Stopped c.in-Stopped.stop)) told (rw c.in-Stopped.is at c.in_ok-place.ensures.looked) in
    let slower : IsSlower c.args.base.now.lattice.now c.args.due c.looks.searching.known.tellings.items c.look.new.slower
    = subst (λ (ts : List Telling). IsSlower c.args.base.now.lattice.now c.args.due ts c.look.new.slower) told
    (c.in_ok-place.ensures.slower c.args.due (subst (λ (ts : List Telling). IsSlower c.args.base.now.lattice.now c.args.due ts c.looks.slower) (sym told) c.looks.invariant.slower)) in
    record {
      goal = looked.goal;
      among = among-back net c.args.base.now.exploring.now.limits c.args.base.now.corner.now.capacities c.args.base.now.lattice.now c.requires.base.stands c.args.due c.looks.searching c.looks.invariant.settling c.look.new.slower slower looked.goal looked.uncovered.among;
      low = low-there net c.args.base.now.exploring.now.limits c.args.base.now.corner.now.capacities c.args.base.now.lattice.now c.requires.base.stands c.args.due c.looks.searching c.looks.invariant.settling c.look.new.slower slower looked.goal looked.uncovered.among;
      towards = looked.reached;
    }

pub learn_stop-requires-clause-slower : goal.learn_stop-requires-clause-slower
learn_stop-requires-clause-slower g c = λ κs outlive.
    let told : c.as_slice-in-looks.result.now ≡ c.looks.searching.known.tellings.items = c.as_slice-in-looks.ensures.value in
    subst (λ (ts : List Telling). IsSlower c.args.base.now.lattice.now c.args.due ts c.look.new.slower) told
    (c.in_ok-place.ensures.slower c.args.due (subst (λ (ts : List Telling). IsSlower c.args.base.now.lattice.now c.args.due ts c.looks.slower) (sym told) c.looks.invariant.slower))

pub looks-preserved : goal.looks-preserved
looks-preserved g c = record {
  settling = c.in_ok-learn_stop-in-Stopped.ensures.settling;
  slower = c.in_ok-learn_stop-in-Stopped.ensures.slower;
  more = omega (arith, c.looks.invariant.more, c.in_ok-learn_stop-in-Stopped.ensures.more);
  entered = λ before. c.in_ok-learn_stop-in-Stopped.ensures.entered (c.looks.invariant.entered before);
  count = omega (arith, c.looks.invariant.count, c.in_ok-learn_stop-in-Stopped.ensures.count);
  rises = omega (arith, c.looks.invariant.rises, c.learn_stop.ensures.rises);
  share = c.learn_stop.ensures.share ∙ c.looks.invariant.share;
}

pub returns-in-Held-clause-entered : goal.returns-in-Held-clause-entered
returns-in-Held-clause-entered g c = c.looks.invariant.entered

pub looks-smaller : goal.looks-smaller
looks-smaller g c = omega (arith, c.in_ok-learn_stop-in-Stopped.ensures.more, c.in_ok-learn_stop-in-Stopped.ensures.settling.standing.known.few)

pub returns-in_err-slower-clause-most : goal.returns-in_err-slower-clause-most
returns-in_err-slower-clause-most g c =
    let p = err_from_is_err_and c.from_residual.result c.from_residual.ensures.1 in
    rw p.1 (λ before was.
    known-counts (g.F.Firing.net c.args.base.now.exploring.now.net.now) c.args.base.now.exploring.now.limits c.args.base.now.corner.now.capacities c.args.base.now.lattice.now c.args.searching.now.below c.args.searching.now.known c.requires.settling.standing.known before c.args.steps.now.count
    (omega (arith, was)))

pub returns-in_err-place-clause-most : goal.returns-in_err-place-clause-most
returns-in_err-place-clause-most g c =
    let p = err_from_is_err_and c.from_residual-in_err-place.result c.from_residual-in_err-place.ensures.1 in
    rw p.1 (λ before was.
    known-counts (g.F.Firing.net c.args.base.now.exploring.now.net.now) c.args.base.now.exploring.now.limits c.args.base.now.corner.now.capacities c.args.base.now.lattice.now c.looks.searching.below c.looks.searching.known c.looks.invariant.settling.standing.known before c.looks.steps.count
    (omega (arith, was, c.looks.invariant.count)))

pub returns-in_err-learn_stop-in-Stopped-clause-most : goal.returns-in_err-learn_stop-in-Stopped-clause-most
returns-in_err-learn_stop-in-Stopped-clause-most g c =
    let p = err_from_is_err_and c.from_residual-in_err-learn_stop-in-Stopped.result c.from_residual-in_err-learn_stop-in-Stopped.ensures.1 in
    rw p.1 (λ before was. c.in_err-learn_stop-in-Stopped.ensures.most before (omega (arith, was, c.looks.invariant.count)))
