use Rattle.std.proofs.Common.{◌∙◌, arith}
use Rattle.std.proofs.lemmas.Result.{err_from_is_err_and}
use Rattle.sd_base.proofs.ElementsKeepPlaces.{many-more}
use Rattle.cert_text.specs.CycleLines.{cycle_lines}
use Rattle.cert_text.specs.Spellable.{IsCycleText}
use Rattle.cert_text.proofs.PiecesMakeTexts.{read-more, all-pushed}
use Rattle.cert_text.proofs.FoundCycles.{differ-more, cycles-more, cycles-fails, cycles-ends}
use Rattle.cert_text.proofs.reading.trade_offs.each_cycle.Goals as goal

pub loop-place-preserved : goal.loop-place-preserved
loop-place-preserved c =
    let n = c.in_ok-new_cycle.ensures.text in record {
      text = read-more cycle_lines _ _ _ _ _ n.0 c.loop-place.invariant.text n.1 n.4;
      many = many-more _ _ n.0 _ c.loop-place.invariant.many n.4;
      each = all-pushed IsCycleText _ _ n.0 c.loop-place.invariant.each n.2 n.4;
      differ = differ-more _ _ n.0 c.loop-place.invariant.differ n.3 n.4;
      texts = c.in_ok-new_cycle.ensures.texts;
      exact = cycles-more c.args.count c.loop-place.place _ _ _ _ _ c.loop-place-test.true c.in_ok-new_cycle.ensures.exact c.loop-place.invariant.exact;
    }

pub returns-in_err-new_cycle-clause-exact : goal.returns-in_err-new_cycle-clause-exact
returns-in_err-new_cycle-clause-exact c =
    let p = err_from_is_err_and c.from_residual.result c.from_residual.ensures.1 in
    rw (p.1, p.2) (cycles-fails c.args.count c.loop-place.place _ _ _ _ _ c.loop-place-test.true c.in_err-new_cycle.ensures.exact c.loop-place.invariant.exact)

pub returns-clause-exact : goal.returns-clause-exact
returns-clause-exact c = rw c.from_vec.ensures (cycles-ends c.args.count c.loop-place.place _ _ _ c.loop-place-test.false c.loop-place.invariant.exact)

pub returns-clause-text : goal.returns-clause-text
returns-clause-text c = rw c.from_vec.ensures (c.loop-place.invariant.text, c.loop-place.invariant.many ∙ omega (arith, c.loop-place-test.false, c.loop-place.auto.place-end), c.loop-place.invariant.each, c.loop-place.invariant.differ)
