use Rattle.std.proofs.Common.{◌≡◌, List, ℕ, sym, ap, ◌∙◌, arith}
use Rattle.std.specs.declared.cmp.Ordering.TheVariants.{Less, Equal, Greater}
use Rattle.std.specs.Ordering.{nat_cmp}
use Rattle.std.specs.Cmp.Lexicographic.{slice_cmp}
use Rattle.pareto_search.proofs.StopLists.{before-more, has-here, place-here, place-last}
use Rattle.pareto_search.proofs.stops.place_of.Goals as goal

pub returns-in-Equal : goal.returns-in-Equal
returns-in-Equal c =
    let equal : slice_cmp nat_cmp c.index-stops-place.result.capacities c.args.capacities.now ≡ Equal = ap (λ (ks : List ℕ). slice_cmp nat_cmp ks c.args.capacities.now) (sym c.as_slice.ensures) ∙ sym c.in-Equal.ensures in
    has-here c.args.stops.now c.args.capacities.now c.loop-place.place c.index-stops-place.result (omega arith) c.index-stops-place.is equal

pub returns-in-Greater : goal.returns-in-Greater
returns-in-Greater c =
    let more : slice_cmp nat_cmp c.index-stops-place.result.capacities c.args.capacities.now ≡ Greater = ap (λ (ks : List ℕ). slice_cmp nat_cmp ks c.args.capacities.now) (sym c.as_slice.ensures) ∙ sym c.in-Greater.ensures in
    place-here c.args.stops.now c.args.capacities.now c.loop-place.place c.index-stops-place.result (omega arith) c.index-stops-place.is more c.loop-place.invariant

pub loop-place-preserved : goal.loop-place-preserved
loop-place-preserved c =
    let less : slice_cmp nat_cmp c.index-stops-place.result.capacities c.args.capacities.now ≡ Less = ap (λ (ks : List ℕ). slice_cmp nat_cmp ks c.args.capacities.now) (sym c.as_slice.ensures) ∙ sym c.in-Less.ensures in
    before-more c.args.stops.now c.args.capacities.now c.loop-place.place c.index-stops-place.result c.index-stops-place.is less c.loop-place.invariant

pub returns : goal.returns
returns c = place-last c.args.stops.now c.args.capacities.now c.loop-place.place _ (omega arith) (omega arith) c.loop-place.invariant
