use Rattle.std.proofs.lemmas.Result.{err_from_is_err_and}
use Rattle.sd_base.proofs.ElementsKeepPlaces.{many-more}
use Rattle.cert_text.specs.CycleLines.{step_line}
use Rattle.cert_text.specs.LineForms.{step_due}
use Rattle.cert_text.specs.Reads.{next_by}
use Rattle.cert_text.specs.Spellable.{HasText}
use Rattle.cert_text.proofs.PiecesMakeTexts.{read-more, all-pushed}
use Rattle.cert_text.proofs.RepeatedReadsGoOn.{times-more, times-fails, times-ends}
use Rattle.cert_text.proofs.reading.cycles.steps.Goals as goal

pub loop-place-preserved : goal.loop-place-preserved
loop-place-preserved c = record {
  text = read-more step_line _ _ _ _ _ _ c.loop-place.invariant.text c.in_ok-next.ensures.text.0 c.in_ok-push.ensures.items;
  many = many-more _ _ _ _ c.loop-place.invariant.many c.in_ok-push.ensures.items;
  each = all-pushed HasText _ _ _ c.loop-place.invariant.each c.in_ok-next.ensures.text.1 c.in_ok-push.ensures.items;
  exact = times-more (next_by step_due) _ _ c.args.count c.loop-place.place _ _ _ _ c.loop-place-test.true c.in_ok-next.ensures.exact c.in_ok-push.ensures.items c.loop-place.invariant.exact;
}

pub returns-in_err-next-clause-exact : goal.returns-in_err-next-clause-exact
returns-in_err-next-clause-exact c =
    let p = err_from_is_err_and c.from_residual.result c.from_residual.ensures.1 in
    rw (p.1, p.2) (times-fails (next_by step_due) _ c.args.count c.loop-place.place _ _ _ _ c.loop-place-test.true c.in_err-next.ensures.exact c.loop-place.invariant.exact)

pub returns-clause-exact : goal.returns-clause-exact
returns-clause-exact c = rw c.from_vec.ensures (times-ends (next_by step_due) _ c.args.count c.loop-place.place _ _ c.loop-place-test.false c.loop-place.invariant.exact)
