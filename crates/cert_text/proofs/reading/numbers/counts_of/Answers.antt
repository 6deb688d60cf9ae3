use Rattle.std.proofs.Common.{◌≡◌, ℕ, ◌<◌, ◌∙◌, List, length, sym, lit<, inr}
use Rattle.std.proofs.lemmas.Result.{err_from_is_err_and}
use Rattle.cert_text.specs.Fields.{limited}
use Rattle.cert_text.specs.LineForms.{numbers_due}
use Rattle.cert_text.specs.NumberLines.{numbers_line}
use Rattle.cert_text.proofs.EntriesAreReadInTurn.{numbers-start, numbers-none, numbers-sound, collects-more, collects-ends, goes-fails, goes-unended, gives-same, if-ok}
use Rattle.cert_text.proofs.reading.numbers.counts_of.Goals as goal

pub returns-in_err-first-clause-exact : goal.returns-in_err-first-clause-exact
returns-in_err-first-clause-exact c =
    let p = err_from_is_err_and c.from_residual.result c.from_residual.ensures.1 in
    rw (p.1, p.2) (inr (numbers-none 18446744073709551615 c.args.line.rest.now _ c.in_err-first.ensures.exact))

pub loop-line-init : goal.loop-line-init
loop-line-init c = numbers-start 18446744073709551615 _ _ _ _ _ _ _ _ c.in_ok-first.ensures.exact c.in_ok-counts.ensures.none c.in_ok-push.ensures.exact c.long.ensures.exact

pub returns-in_err-next-clause-exact : goal.returns-in_err-next-clause-exact
returns-in_err-next-clause-exact c =
    let p = err_from_is_err_and c.from_residual-in_err-next.result c.from_residual-in_err-next.ensures.1 in
    rw (p.1, p.2) (inr (goes-fails _ _ _ _ _ _ c.loop-line.invariant.goes c.loop-line-test.true c.in_err-next.ensures.exact))

pub loop-line-preserved : goal.loop-line-preserved
loop-line-preserved c = collects-more _ _ (limited 18446744073709551615) _ _ _ _ _ _ _ _ _ c.loop-line.invariant c.loop-line-test.true c.in_ok-next.ensures.exact c.in_ok-next.ensures.numeral.1 c.in_ok-push-2.ensures.exact c.long-in-loop-line.ensures.exact

pub returns-in_err-end-clause-exact : goal.returns-in_err-end-clause-exact
returns-in_err-end-clause-exact c =
    let p = err_from_is_err_and c.from_residual-in_err-end.result c.from_residual-in_err-end.ensures.1 in
    rw (p.1, p.2) (inr (goes-unended _ _ _ _ _ _ c.loop-line.invariant.goes c.loop-line-test.false c.in_err-end.ensures.exact))

pub returns-clause-text : goal.returns-clause-text
returns-clause-text c =
    let read : numbers_due 18446744073709551615 c.args.line.rest.now ≡ c.rows.result = collects-ends _ _ _ _ _ _ _ c.loop-line.invariant c.loop-line-test.false c.in_ok-end.ensures.exact ∙ sym c.rows.ensures in
    if-ok (λ (s : List ℕ). (c.args.line.rest.now ≡ numbers_line s) × (0 < length s)) c.rows.result (numbers_due 18446744073709551615 c.args.line.rest.now) read (λ (s : List ℕ) is.
    let sound = numbers-sound 18446744073709551615 c.args.line.rest.now s (lit< tt) is in
    (sound.0, sound.1))

pub returns-clause-exact : goal.returns-clause-exact
returns-clause-exact c = gives-same _ _ (collects-ends _ _ _ _ _ _ _ c.loop-line.invariant c.loop-line-test.false c.in_ok-end.ensures.exact ∙ sym c.rows.ensures)
