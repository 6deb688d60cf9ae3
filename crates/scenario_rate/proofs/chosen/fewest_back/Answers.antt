use Rattle.std.proofs.Common.{◌≡◌, ◌+◌, ◌<◌, ℕ, Option, MatchOption, length, sym, subst, refl}
use Rattle.std.specs.Prelude.{slice_get, slice_index, slice_index_or, Some}
use Rattle.std.proofs.lemmas.Option.{slice_get-get_or}
use Rattle.automaton.specs.declared.graph.Edge.{Edge}
use Rattle.scenario_rate.specs.inside.Choosing.{steps_at, NoneBack, IsFewest}
use Rattle.scenario_rate.proofs.LeastWaysExtend.{fewest_more}
use Rattle.scenario_rate.proofs.chosen.fewest_back.Goals as goal

pub loop-number-preserved : goal.loop-number-preserved
loop-number-preserved c =
    let k : ℕ = slice_index c.args.out.now c.loop-number.number-index in
    let at : slice_get c.args.out.now c.loop-number.number-index ≡ Some (slice_index c.args.out.now c.loop-number.number-index) = slice_get-get_or c.args.out.now c.loop-number.number-index 0 c.loop-number-test.true in
    let known : slice_index c.args.out.now c.loop-number.number-index < length c.args.edges.now = c.requires.known c.loop-number.number-index (slice_index c.args.out.now c.loop-number.number-index) at in
    let e : Edge = slice_index_or c.args.edges.now (slice_index c.args.out.now c.loop-number.number-index) (record { from = 0; to = 0; weight = 0 }) in
    let is : slice_get c.args.edges.now (slice_index c.args.out.now c.loop-number.number-index) ≡ Some e = slice_get-get_or c.args.edges.now (slice_index c.args.out.now c.loop-number.number-index) (record { from = 0; to = 0; weight = 0 }) known in
    subst (λ (o : Option ℕ). MatchOption o (NoneBack c.args.edges.now c.args.out.now c.args.steps.now (c.loop-number.number-index + 1)) (IsFewest c.args.edges.now c.args.out.now c.args.steps.now (c.loop-number.number-index + 1))) (sym c.fewer-fewest.ensures)
    (fewest_more c.args.edges.now c.args.out.now c.args.steps.now c.loop-number.number-index k e at is c.loop-number.fewest (steps_at c.args.steps.now e.to) refl c.loop-number.invariant)
