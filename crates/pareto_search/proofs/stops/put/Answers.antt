use Rattle.std.proofs.Common.{List, ℕ, sym, subst}
use Rattle.pareto_search.specs.declared.stops.Stop.{Stop}
use Rattle.pareto_search.specs.inside.Stops.{AreAscending, IsPlace}
use Rattle.pareto_search.proofs.StopLists.{put-ascending}
use Rattle.pareto_search.proofs.stops.put.Goals as goal

pub returns-in_ok-insert-clause-ascending : goal.returns-in_ok-insert-clause-ascending
returns-in_ok-insert-clause-ascending c =
    let here : IsPlace c.args.stops.now.items c.args.stop.capacities c.in-Some.place
    = subst (λ (ks : List ℕ). IsPlace c.args.stops.now.items ks c.in-Some.place) c.as_slice-2.ensures
    (subst (λ (ss : List Stop). IsPlace ss c.as_slice-2.result.now c.in-Some.place) c.as_slice.ensures.value c.in-Some.ensures) in
    subst AreAscending (sym c.in_ok-insert.ensures.items) (put-ascending c.args.stops.now.items c.in-Some.place c.args.stop c.requires here)
