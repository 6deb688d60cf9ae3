use Rattle.std.proofs.Common.{◌<◌, ◌≤◌, true≢false, List, Bool, sym, subst, ◌∙◌, arith}
use Rattle.cert_checker.specs.inside.Marks.{unmarked}
use Rattle.cert_checker.proofs.MarksShowReached.{kept-more}
use Rattle.cert_checker.proofs.reaching.spread.Goals as goal
use Rattle.cert_checker.proofs.reaching.spread.Goals.{then-mark_end, else-mark_end}

pub loop-number-preserved : goal.loop-number-preserved
loop-number-preserved c =
    let last = c.loop-number.invariant in
    elim c.if-mark_end.branch [
      | then-mark_end w ↦ record {
        size = c.mark_end.ensures.size;
        reached = λ sound. c.mark_end.ensures.reached (last.reached sound);
        starts = λ starts. c.mark_end.ensures.starts (last.starts starts);
        few = omega (arith, c.mark_end.ensures.fewer w.if-mark_end.true, c.loop-number.invariant.few);
        fewer = λ on. omega (arith, c.mark_end.ensures.fewer w.if-mark_end.true, c.loop-number.invariant.few);
        kept = λ off. absurd (true≢false (sym w.spreads-is ∙ off));
      }
      | else-mark_end w ↦ record {
        size = c.mark_end.ensures.size;
        reached = λ sound. c.mark_end.ensures.reached (last.reached sound);
        starts = λ starts. c.mark_end.ensures.starts (last.starts starts);
        few = subst (λ (ms : List Bool). unmarked ms ≤ unmarked c.args.marks.now.items) (sym (c.mark_end.ensures.stays w.if-mark_end.false)) last.few;
        fewer = λ on. subst (λ (ms : List Bool). unmarked ms < unmarked c.args.marks.now.items) (sym (c.mark_end.ensures.stays w.if-mark_end.false)) (last.fewer (sym w.spreads-is ∙ on));
        kept = λ off. kept-more c.args.graph.now.edges c.loop-number.number c.loop-number.marks.items c.mark_end.new.marks.items (c.mark_end.ensures.stays w.if-mark_end.false) (last.kept (sym w.spreads-is ∙ off)) (c.mark_end.ensures.kept w.if-mark_end.false);
      }
    ]
