use Rattle.std.proofs.Common.{◌≡◌, ◌+◌, ◌<◌, ℕ, Option, MatchOption, length, sym, subst, refl}
use Rattle.std.specs.Prelude.{slice_get, slice_index, slice_index_or, Some}
use Rattle.std.proofs.lemmas.Option.{slice_get-get_or}
use Rattle.std.proofs.lemmas.Bool.{false≢true}
use Rattle.automaton.specs.declared.graph.Edge.{Edge}
use Rattle.scenario_rate.specs.inside.Choosing.{NoneNext, IsNextEdge}
use Rattle.scenario_rate.proofs.LeastWaysExtend.{next_more, next_pass, next-known}
use Rattle.scenario_rate.proofs.chosen.next_edge.Goals as goal
use Rattle.scenario_rate.proofs.chosen.next_edge.Goals.{then-leads_on, else-leads_on}

pub nearer-best-requires-clause-best : goal.nearer-best-requires-clause-best
nearer-best-requires-clause-best c = next-known c.args.edges.now c.args.out.now c.args.steps.now c.args.left c.loop-number.number-index c.loop-number.best c.loop-number.invariant

pub loop-number-preserved : goal.loop-number-preserved
loop-number-preserved c =
    let k : ℕ = slice_index c.args.out.now c.loop-number.number-index in
    let at : slice_get c.args.out.now c.loop-number.number-index ≡ Some (slice_index c.args.out.now c.loop-number.number-index) = slice_get-get_or c.args.out.now c.loop-number.number-index 0 c.loop-number-test.true in
    let known : slice_index c.args.out.now c.loop-number.number-index < length c.args.edges.now = c.requires.known c.loop-number.number-index (slice_index c.args.out.now c.loop-number.number-index) at in
    let e : Edge = slice_index_or c.args.edges.now (slice_index c.args.out.now c.loop-number.number-index) (record { from = 0; to = 0; weight = 0 }) in
    let is : slice_get c.args.edges.now (slice_index c.args.out.now c.loop-number.number-index) ≡ Some e = slice_get-get_or c.args.edges.now (slice_index c.args.out.now c.loop-number.number-index) (record { from = 0; to = 0; weight = 0 }) known in
    elim c.if-leads_on.branch [
      | then-leads_on w ↦ (let on = w.if-leads_on.ensures.0 refl in
          subst (λ (o : Option ℕ). MatchOption o (NoneNext c.args.edges.now c.args.out.now c.args.steps.now c.args.left (c.loop-number.number-index + 1)) (IsNextEdge c.args.edges.now c.args.out.now c.args.steps.now c.args.left (c.loop-number.number-index + 1))) (sym w.best-is)
          (next_more c.args.edges.now c.args.out.now c.args.steps.now c.loop-number.number-index k e at is c.args.left c.loop-number.best w.nearer-best.result on w.nearer-best.ensures c.loop-number.invariant))
      | else-leads_on w ↦ subst (λ (o : Option ℕ). MatchOption o (NoneNext c.args.edges.now c.args.out.now c.args.steps.now c.args.left (c.loop-number.number-index + 1)) (IsNextEdge c.args.edges.now c.args.out.now c.args.steps.now c.args.left (c.loop-number.number-index + 1))) (sym w.best-is)
          (next_pass c.args.edges.now c.args.out.now c.args.steps.now c.loop-number.number-index k e at is c.args.left c.loop-number.best (λ to. false≢true (w.if-leads_on.ensures.1 to)) c.loop-number.invariant)
    ]
