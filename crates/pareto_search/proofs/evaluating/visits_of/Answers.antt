use Rattle.std.proofs.Common.{◌≡◌, ◌+◌, ◌<◌, ◌++◌, [], ◌∷◌, ℕ, Option, List, All, length, map, take, subst, sym, ap, ◌∙◌, arith}
use Rattle.std.proofs.lemmas.List.{map-append, take_all, take_more}
use Rattle.std.proofs.lemmas.List.Elements.{All-push}
use Rattle.evaluations.specs.declared.evaluating.Visit.{Visit}
use Rattle.evaluations.specs.Evaluating.{IsVisitable}
use Rattle.pareto_search.specs.declared.stops.Stop.{Stop}
use Rattle.pareto_search.specs.inside.Stops.{IsStop}
use Rattle.pareto_search.specs.inside.Vectors.{bounded_by}
use Rattle.pareto_search.proofs.StopsAreVisitable.{by-place, stop-visitable}
use Rattle.pareto_search.proofs.evaluating.visits_of.Goals as goal

pub counts_by-counts-requires : goal.counts_by-counts-requires
counts_by-counts-requires g c =
    let net = g.F.Firing.net c.args.base.now.exploring.now.net.now in
    let limits = c.args.base.now.exploring.now.limits in
    let corner = c.args.base.now.corner.now.capacities in
    let lattice = c.args.base.now.lattice.now in
    let tellings = c.args.tellings.now in
    let s = c.stop-item.result in
    let is : IsStop net limits corner lattice tellings c.requires.stops.0 s = subst (IsStop net limits corner lattice tellings c.requires.stops.0) (sym c.stop-item.is) (c.requires.stops.1 c.loop-stop.stop-index s (omega (arith, c.loop-stop-test.true))) in
    by-place lattice.axes tellings s.capacities s.by is.by

pub loop-stop-preserved : goal.loop-stop-preserved
loop-stop-preserved g c =
    let net = g.F.Firing.net c.args.base.now.exploring.now.net.now in
    let limits = c.args.base.now.exploring.now.limits in
    let corner = c.args.base.now.corner.now.capacities in
    let lattice = c.args.base.now.lattice.now in
    let tellings = c.args.tellings.now in
    let stops = c.args.stops.now in
    let k = c.loop-stop.stop-index in
    let s = c.stop-item.result in
    let P : Visit → Type 0 = λ x. IsVisitable net x.capacities x.counts.now in
    let f : Visit → List (Option ℕ) = λ x. x.capacities.capacities in
    let h : Stop → List (Option ℕ) = λ x. bounded_by corner x.capacities in
    let below : k < length stops = omega (arith, c.loop-stop-test.true) in
    let is : IsStop net limits corner lattice tellings c.requires.stops.0 s = subst (IsStop net limits corner lattice tellings c.requires.stops.0) (sym c.stop-item.is) (c.requires.stops.1 k s below) in
    let bounds : c.in_ok-capacities.capacities.capacities ≡ bounded_by corner s.capacities = c.in_ok-capacities.ensures ∙ ap (λ (ks : List ℕ). bounded_by corner ks) c.as_slice.ensures in
    let visit : Visit = record { capacities = c.in_ok-capacities.capacities; counts = c.counts_by-counts.result } in
    let visitable : P visit = stop-visitable net limits corner lattice c.args.base.now.exploring.now.starts.now c.requires.base tellings c.requires.told c.requires.stops.0 s c.in_ok-capacities.capacities c.counts_by-counts.result.now is bounds c.counts_by-counts.ensures in
    let more : map h (take (k + 1) stops) ≡ map h (take k stops) ++ h s ∷ [] =
    ap (map h) (take_more stops k s below ∙ ap (λ (x : Stop). take k stops ++ x ∷ []) (sym c.stop-item.is)) ∙ map-append h (take k stops) (s ∷ []) in
    let items : c.push_reserved.new.self.items ≡ c.loop-stop.visits.items ++ visit ∷ [] = c.push_reserved.ensures.items in
    record {
      long = omega (arith, c.push_reserved.ensures.len, c.loop-stop.invariant.long);
      room = omega (arith, c.push_reserved.ensures.capacity, c.loop-stop.invariant.room);
      each = subst (All P) (sym items) (All-push P c.loop-stop.visits.items visit c.loop-stop.invariant.each visitable);
      order = ap (map f) items
          ∙ (map-append f c.loop-stop.visits.items (visit ∷ [])
          ∙ (ap (λ xs. xs ++ f visit ∷ []) c.loop-stop.invariant.order
          ∙ (ap (λ ds. map h (take k stops) ++ ds ∷ []) bounds
          ∙ sym more)));
    }

pub returns-clause-order : goal.returns-clause-order
returns-clause-order g c =
    let h : Stop → List (Option ℕ) = λ x. bounded_by c.args.base.now.corner.now.capacities x.capacities in
    c.loop-stop.invariant.order ∙ ap (map h) (take_all c.loop-stop.stop-index c.args.stops.now (omega (arith, c.loop-stop-test.false)))
