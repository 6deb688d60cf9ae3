use Rattle.std.proofs.Common.{◌≡◌, Some, sym, subst, refl, ◌∙◌}
use Rattle.std.specs.Prelude.{slice_get, slice_index_or}
use Rattle.std.proofs.lemmas.Bool.{false≢true}
use Rattle.std.proofs.lemmas.Option.{slice_get-get_or}
use Rattle.automaton.specs.declared.graph.Edge.{Edge}
use Rattle.scenario_rate.specs.inside.Levels.{cell_at}
use Rattle.scenario_rate.specs.inside.Choosing.{IsEven}
use Rattle.scenario_rate.proofs.TightWalksAreCritical.{tight_more, tight_pass}
use Rattle.scenario_rate.proofs.tight.tight_edges.Goals as goal
use Rattle.scenario_rate.proofs.tight.tight_edges.Goals.{then-is_even+in_ok-push, else-is_even}

pub loop-number-preserved : goal.loop-number-preserved
loop-number-preserved c =
    let e : Edge = slice_index_or c.args.edges.now c.loop-number.number (record { from = 0; to = 0; weight = 0 }) in
    let is : slice_get c.args.edges.now c.loop-number.number ≡ Some e = slice_get-get_or c.args.edges.now c.loop-number.number (record { from = 0; to = 0; weight = 0 }) c.loop-number-test.true in
    elim c.if-is_even.branch [
      | then-is_even+in_ok-push w ↦ rw w.tight-is (tight_more c.args.edges.now c.args.row.now c.args.rounds c.args.time c.loop-number.number c.loop-number.tight.items w.push.new.self.items c.loop-number.invariant (e, is, w.if-is_even.ensures.0 refl) w.in_ok-push.ensures.items)
      | else-is_even w ↦ rw w.tight-is (tight_pass c.args.edges.now c.args.row.now c.args.rounds c.args.time c.loop-number.number c.loop-number.tight.items c.loop-number.invariant
          (λ t. (let same : t.0 ≡ e = (let h : Some t.0 ≡ Some e = sym t.1 ∙ is in cc) in
          false≢true (w.if-is_even.ensures.1 (subst (λ (f : Edge). IsEven c.args.rounds c.args.time f (cell_at c.args.row.now f.from) (cell_at c.args.row.now f.to)) same t.2)))))
    ]
