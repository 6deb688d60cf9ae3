use Rattle.std.proofs.Common.{All}
use Rattle.std.proofs.lemmas.Result.{err_from_is_err_and}
use Rattle.sd_base.proofs.ElementsKeepPlaces.{many-more}
use Rattle.cert_text.specs.MemberLines.{point_lines}
use Rattle.cert_text.specs.Sections.{point_from}
use Rattle.cert_text.specs.declared.certificates.PointLine.{PointLine}
use Rattle.cert_text.specs.Spellable.{AreStarts}
use Rattle.cert_text.proofs.PiecesMakeTexts.{read-more, all-pushed}
use Rattle.cert_text.proofs.RepeatedReadsGoOn.{times-more, times-fails, times-ends}
use Rattle.cert_text.proofs.reading.points.each_point.Goals as goal

pub loop-place-preserved : goal.loop-place-preserved
loop-place-preserved c = record {
  text = read-more point_lines _ _ _ _ _ _ c.loop-place.invariant.text c.in_ok-next.ensures.text.0 c.in_ok-push.ensures.items;
  many = many-more _ _ _ _ c.loop-place.invariant.many c.in_ok-push.ensures.items;
  each = all-pushed (λ (p : PointLine). All AreStarts p.schedule.starts) _ _ _ c.loop-place.invariant.each c.in_ok-next.ensures.text.1 c.in_ok-push.ensures.items;
  exact = times-more point_from _ _ c.args.count c.loop-place.place _ _ _ _ c.loop-place-test.true c.in_ok-next.ensures.exact c.in_ok-push.ensures.items c.loop-place.invariant.exact;
}

pub returns-in_err-next-clause-exact : goal.returns-in_err-next-clause-exact
returns-in_err-next-clause-exact c =
    let p = err_from_is_err_and c.from_residual.result c.from_residual.ensures.1 in
    rw (p.1, p.2) (times-fails point_from _ c.args.count c.loop-place.place _ _ _ _ c.loop-place-test.true c.in_err-next.ensures.exact c.loop-place.invariant.exact)

pub returns-clause-exact : goal.returns-clause-exact
returns-clause-exact c = rw c.from_vec.ensures (times-ends point_from _ c.args.count c.loop-place.place _ _ c.loop-place-test.false c.loop-place.invariant.exact)
