use Rattle.std.proofs.Common.{◌≡◌, ◌<◌, Some, length, ◌∙◌, subst, sym}
use Rattle.std.specs.Prelude.{slice_get, slice_index_or}
use Rattle.std.proofs.lemmas.Option.{slice_get-get_or}
use Rattle.automaton.specs.declared.graph.Edge.{Edge}
use Rattle.scenario_rate.specs.inside.Levels.{cell_at}
use Rattle.scenario_rate.proofs.RaisedRowsStaySmall.{raised-more, raised-as_is}
use Rattle.scenario_rate.proofs.levels.next_row.Goals as goal
use Rattle.scenario_rate.proofs.levels.next_row.Goals.{then-brings, else-brings}

pub loop-number-preserved : goal.loop-number-preserved
loop-number-preserved c =
    let e : Edge = slice_index_or c.args.edges.now c.loop-number.number (record { from = 0; to = 0; weight = 0 }) in
    let at : slice_get c.args.edges.now c.loop-number.number ≡ Some e = slice_get-get_or c.args.edges.now c.loop-number.number (record { from = 0; to = 0; weight = 0 }) c.loop-number-test.true in
    let to : e.to < length c.loop-number.next.items = subst (λ n. e.to < n) (sym c.loop-number.invariant.size) (c.requires.inside.to c.loop-number.number e at) in
    elim c.if-brings.branch [
      | then-brings w ↦ rw w.next-is (record {
        raised = raised-more c.args.edges.now c.loop-number.number c.args.rounds c.args.time (cell_at c.args.row.now) c.loop-number.next.items w.raise.new.next.items e
            c.loop-number.invariant.raised at to w.raise.ensures.brought;
        size = w.raise.ensures.size ∙ c.loop-number.invariant.size;
      })
      | else-brings w ↦ rw w.next-is (record {
        raised = raised-as_is c.args.edges.now c.loop-number.number c.args.rounds c.args.time (cell_at c.args.row.now) c.loop-number.next.items e
            c.loop-number.invariant.raised at to (c.requires.honoured w.if-brings.ensures.0) w.if-brings.ensures.1;
        size = c.loop-number.invariant.size;
      })
    ]
