use Rattle.std.proofs.lemmas.Result.{err_from_is_err_and}
use Rattle.cert_text.specs.NumberLines.{numbers_line}
use Rattle.cert_text.specs.Spellable.{AreStarts}
use Rattle.cert_text.proofs.PiecesMakeTexts.{read-more, all-pushed}
use Rattle.cert_text.proofs.RepeatedReadsGoOn.{actors-more, actors-fails, actors-ends}
use Rattle.cert_text.proofs.reading.schedules.actors.Goals as goal

pub actors-preserved : goal.actors-preserved
actors-preserved c = record {
  text = read-more numbers_line _ _ _ _ _ _ c.actors.invariant.text c.in_ok-row.ensures.text.0 c.in_ok-push.ensures.items;
  each = all-pushed AreStarts _ _ _ c.actors.invariant.each c.in_ok-row.ensures.text.1 c.in_ok-push.ensures.items;
  exact = actors-more _ _ _ _ _ _ c.actors-test.ensures c.in_ok-row.ensures.exact c.in_ok-push.ensures.items c.actors.invariant.exact;
}

pub returns-in_err-row-clause-exact : goal.returns-in_err-row-clause-exact
returns-in_err-row-clause-exact c =
    let p = err_from_is_err_and c.from_residual.result c.from_residual.ensures.1 in
    rw (p.1, p.2) (actors-fails _ _ _ _ _ c.actors-test.ensures c.in_err-row.ensures.exact c.actors.invariant.exact)

pub returns-clause-exact : goal.returns-clause-exact
returns-clause-exact c = rw c.from_vec.ensures (actors-ends _ _ _ c.actors-test.ensures c.actors.invariant.exact)
