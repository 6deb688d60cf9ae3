use Rattle.std.proofs.Common.{◌≡◌, ℕ, ◌∙◌, List, sym, inr, refl}
use Rattle.std.proofs.lemmas.Result.{err_from_is_err_and}
use Rattle.cert_text.specs.BufferLines.{buffers_line}
use Rattle.cert_text.specs.LineForms.{some_buffers_due}
use Rattle.cert_text.specs.Spellable.{Rise}
use Rattle.cert_text.proofs.EntriesAreReadInTurn.{goes-fails, goes-unended, gives-same, if-ok}
use Rattle.cert_text.proofs.BuffersRise.{rising-start, rising-unworded, rising-none, rising-more, rising-falls, rising-ends, buffers-sound}
use Rattle.cert_text.proofs.reading.buffers.some_buffers_of.Goals as goal

pub returns-in_err-word-clause-exact : goal.returns-in_err-word-clause-exact
returns-in_err-word-clause-exact c =
    let p = err_from_is_err_and c.from_residual.result c.from_residual.ensures.1 in
    rw (p.1, p.2) (inr (rising-unworded c.args.line.rest.now _ c.in_err-word.ensures.exact))

pub returns-in_err-first-clause-exact : goal.returns-in_err-first-clause-exact
returns-in_err-first-clause-exact c =
    let p = err_from_is_err_and c.from_residual-in_err-first.result c.from_residual-in_err-first.ensures.1 in
    rw (p.1, p.2) (inr (rising-none c.args.line.rest.now _ _ c.in_ok-word.ensures.exact c.in_err-first.ensures.exact))

pub loop-line-init : goal.loop-line-init
loop-line-init c = record {
  rising = rising-start _ _ _ _ _ _ _ _ _ c.in_ok-word.ensures.exact c.in_ok-first.ensures.exact c.in_ok-buffers.ensures.none c.in_ok-push.ensures.exact c.limited.ensures.exact;
  numeral = c.in_ok-first.ensures.numeral.0;
}

pub returns-in_err-next-clause-exact : goal.returns-in_err-next-clause-exact
returns-in_err-next-clause-exact c =
    let p = err_from_is_err_and c.from_residual-in_err-next.result c.from_residual-in_err-next.ensures.1 in
    rw (p.1, p.2) (inr (goes-fails _ _ _ _ _ _ c.loop-line.invariant.rising.goes c.loop-line-test.true c.in_err-next.ensures.exact))

pub loop-line-preserved : goal.loop-line-preserved
loop-line-preserved c = record {
  rising = rising-more _ _ _ _ _ _ _ _ _ _ _ _ _ c.loop-line.invariant.rising c.loop-line-test.true c.in_ok-next.ensures.exact c.in_ok-next.ensures.numeral.2 c.in_ok-push-2.ensures.exact c.limited-in-loop-line.ensures.exact c.still_rises-rise.ensures refl;
  numeral = c.in_ok-next.ensures.numeral.0;
}

pub returns-in_err-end-clause-exact : goal.returns-in_err-end-clause-exact
returns-in_err-end-clause-exact c =
    let p = err_from_is_err_and c.from_residual-in_err-end.result c.from_residual-in_err-end.ensures.1 in
    rw (p.1, p.2) (inr (goes-unended _ _ _ _ _ _ c.loop-line.invariant.rising.goes c.loop-line-test.false c.in_err-end.ensures.exact))

pub returns-then-not-rise-clause-exact : goal.returns-then-not-rise-clause-exact
returns-then-not-rise-clause-exact c = inr (rising-falls _ _ _ _ _ _ _ c.loop-line.invariant.rising c.loop-line-test.false c.in_ok-end.ensures.exact c.if-not-rise.true)

pub returns-clause-text : goal.returns-clause-text
returns-clause-text c =
    let read : some_buffers_due c.args.line.rest.now ≡ c.rows.result = rising-ends _ _ _ _ _ _ _ c.loop-line.invariant.rising c.loop-line-test.false c.in_ok-end.ensures.exact c.if-not-rise.false ∙ sym c.rows.ensures in
    if-ok (λ (s : List (ℕ × ℕ)). (c.args.line.rest.now ≡ buffers_line s) × Rise s) c.rows.result (some_buffers_due c.args.line.rest.now) read (λ (s : List (ℕ × ℕ)) is. buffers-sound c.args.line.rest.now s is)

pub returns-clause-exact : goal.returns-clause-exact
returns-clause-exact c = gives-same _ _ (rising-ends _ _ _ _ _ _ _ c.loop-line.invariant.rising c.loop-line-test.false c.in_ok-end.ensures.exact c.if-not-rise.false ∙ sym c.rows.ensures)
