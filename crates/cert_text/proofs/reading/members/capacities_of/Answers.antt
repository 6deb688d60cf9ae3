use Rattle.std.proofs.Common.{◌≡◌, ℕ, ◌∙◌, List, Option, sym, inr}
use Rattle.std.proofs.lemmas.Result.{err_from_is_err_and}
use Rattle.cert_text.specs.LineForms.{capacity_limited, capacities_due}
use Rattle.cert_text.specs.MemberLines.{member_line}
use Rattle.cert_text.proofs.EntriesAreReadInTurn.{capacities-start, capacities-none, capacities-sound, collects-more, collects-ends, goes-fails, goes-unended, gives-same, if-ok}
use Rattle.cert_text.proofs.reading.members.capacities_of.Goals as goal

pub returns-in_err-word-clause-exact : goal.returns-in_err-word-clause-exact
returns-in_err-word-clause-exact c =
    let p = err_from_is_err_and c.from_residual.result c.from_residual.ensures.1 in
    rw (p.1, p.2) (inr (capacities-none c.args.line.rest.now _ c.in_err-word.ensures.exact))

pub loop-line-init : goal.loop-line-init
loop-line-init c = capacities-start _ _ _ _ c.in_ok-word.ensures.exact c.in_ok-capacities.ensures.none

pub returns-in_err-next-clause-exact : goal.returns-in_err-next-clause-exact
returns-in_err-next-clause-exact c =
    let p = err_from_is_err_and c.from_residual-in_err-next.result c.from_residual-in_err-next.ensures.1 in
    rw (p.1, p.2) (inr (goes-fails _ _ _ _ _ _ c.loop-line.invariant.goes c.loop-line-test.true c.in_err-next.ensures.exact))

pub loop-line-preserved : goal.loop-line-preserved
loop-line-preserved c = collects-more _ _ capacity_limited _ _ _ _ _ _ _ _ _ c.loop-line.invariant c.loop-line-test.true c.in_ok-next.ensures.exact c.in_ok-next.ensures.numeral.1 c.in_ok-push.ensures.exact c.limited.ensures.exact

pub returns-in_err-end-clause-exact : goal.returns-in_err-end-clause-exact
returns-in_err-end-clause-exact c =
    let p = err_from_is_err_and c.from_residual-in_err-end.result c.from_residual-in_err-end.ensures.1 in
    rw (p.1, p.2) (inr (goes-unended _ _ _ _ _ _ c.loop-line.invariant.goes c.loop-line-test.false c.in_err-end.ensures.exact))

pub returns-clause-text : goal.returns-clause-text
returns-clause-text c =
    let read : capacities_due c.args.line.rest.now ≡ c.rows.result = collects-ends _ _ _ _ _ _ _ c.loop-line.invariant c.loop-line-test.false c.in_ok-end.ensures.exact ∙ sym c.rows.ensures in
    if-ok (λ (s : List (Option ℕ)). c.args.line.rest.now ≡ member_line s) c.rows.result (capacities_due c.args.line.rest.now) read (λ (s : List (Option ℕ)) is. capacities-sound c.args.line.rest.now s is)

pub returns-clause-exact : goal.returns-clause-exact
returns-clause-exact c = gives-same _ _ (collects-ends _ _ _ _ _ _ _ c.loop-line.invariant c.loop-line-test.false c.in_ok-end.ensures.exact ∙ sym c.rows.ensures)
