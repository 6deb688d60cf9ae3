use Rattle.std.proofs.Common.{ℕ, List, Some, sym, subst}
use Rattle.std.proofs.lemmas.Result.{IfOk-weaker}
use Rattle.covers.specs.Lattices.{IsAmong}
use Rattle.covers.specs.Searches.{IsFirst, IsSettled}
use Rattle.pareto_search.specs.declared.searching.Due.{Due}
use Rattle.pareto_search.specs.inside.Firsts.{IsLooked, IsSlower}
use Rattle.pareto_search.specs.inside.Stops.{IsReach}
use Rattle.pareto_search.proofs.SlowerBounds.{settled-before, slower-looked, within-back}
use Rattle.pareto_search.proofs.first.look.Goals as goal

pub first-requires-clause-searched : goal.first-requires-clause-searched
first-requires-clause-searched g c = c.requires.left.slower.searched

pub first-requires-clause-by_vectors : goal.first-requires-clause-by_vectors
first-requires-clause-by_vectors g c = c.requires.left.slower.by_vectors

pub unreachable-requires : goal.unreachable-requires
unreachable-requires g c =
    let settled : IsSettled c.first.new.self = rw c.in-None.is at c.in_ok-goal.ensures.first in
    c.requires.left.some (settled-before c.args.slower.now c.first.new.self c.in_ok-goal.ensures.same settled)

pub walk_to-requires-clause-goal : goal.walk_to-requires-clause-goal
walk_to-requires-clause-goal g c =
    let first : IsFirst c.first.new.self (Some c.in-Some.goal) = rw c.in-Some.is at c.in_ok-goal.ensures.first in
    subst (IsAmong c.args.base.now.lattice.now) (sym c.as_slice.ensures) (within-back c.args.base.now.lattice.now c.args.tellings.now c.args.slower.now c.first.new.self c.requires.left c.in_ok-goal.ensures.same c.in-Some.goal first.0.among)

pub returns-clause-slower : goal.returns-clause-slower
returns-clause-slower g c =
    IfOk-weaker c.walk_to.result (IsReach c.args.base.now.lattice.now c.args.tellings.now c.as_slice.result.now)
    (λ r. (due : Due) → IsSlower c.args.base.now.lattice.now due c.args.tellings.now c.args.slower.now → IsSlower c.args.base.now.lattice.now due c.args.tellings.now c.first.new.self)
    (λ r reached due is. slower-looked c.args.base.now.lattice.now due c.args.tellings.now c.args.slower.now c.first.new.self c.in_ok-goal.ensures.same c.in_ok-goal.ensures.searched is)
    c.walk_to.ensures

pub returns-clause-looked : goal.returns-clause-looked
returns-clause-looked g c =
    let first : IsFirst c.first.new.self (Some c.in-Some.goal) = rw c.in-Some.is at c.in_ok-goal.ensures.first in
    IfOk-weaker c.walk_to.result (IsReach c.args.base.now.lattice.now c.args.tellings.now c.as_slice.result.now) (IsLooked c.args.base.now.lattice.now c.args.tellings.now c.first.new.self)
    (λ r reached. record {
      goal = c.in-Some.goal;
      uncovered = first.0;
      first = first.1;
      reached = subst (λ (ks : List ℕ). IsReach c.args.base.now.lattice.now c.args.tellings.now ks r) c.as_slice.ensures reached;
    })
    c.walk_to.ensures
