use Rattle.std.proofs.Common.{◌≡◌, ◌∙◌, ap, ◌∷◌, ◌++◌, ◌-◌, [], List, ℕ, refl, arith}
use Rattle.std.proofs.lemmas.Result.{err_from_is_err_and}
use Rattle.sd_base.proofs.ElementsKeepPlaces.{many-more}
use Rattle.cert_text.specs.LineForms.{node_due}
use Rattle.cert_text.specs.Reads.{lines_of, next_by, times_by}
use Rattle.cert_text.specs.ScenarioLines.{node_line}
use Rattle.cert_text.specs.Sections.{entered_from}
use Rattle.cert_text.proofs.PiecesMakeTexts.{read-more}
use Rattle.cert_text.proofs.RepeatedReadsGoOn.{with_front, times-more, times-fails, times-ends}
use Rattle.cert_text.proofs.reading.scenarios.entered.Goals as goal

pub loop-place-preserved : goal.loop-place-preserved
loop-place-preserved c =
    let before = c.loop-place.invariant.text in
    let rest = before.0 in
    let next = c.in_ok-next.next in
    record {
      text = (
        rest ++ next ∷ [],
        c.in_ok-push-2.ensures.items ∙ ap (λ (l : List (ℕ × ℕ)). l ++ next ∷ []) before.1,
        many-more _ _ _ _ before.2 refl,
        read-more node_line _ _ _ _ _ _ before.3 c.in_ok-next.ensures.text refl,
      );
      exact = times-more (next_by node_due) _ _ c.args.edges c.loop-place.place _ _ _ _ c.loop-place-test.true c.in_ok-next.ensures.exact c.in_ok-push-2.ensures.items c.loop-place.invariant.exact;
    }

pub loop-place-init : goal.loop-place-init
unfolding entered_from
loop-place-init c =
    let one = c.in_ok-push.ensures.items ∙ ap (λ (l : List (ℕ × ℕ)). l ++ c.args.first ∷ []) c.new-nodes.ensures.items in
    let all : c.args.edges - 0 ≡ c.args.edges = omega arith in
    record {
      text = ([], one, refl, refl);
      exact = ap (λ (l : List (ℕ × ℕ)). with_front l (times_by (next_by node_due) (c.args.edges - 0) (lines_of c.args.lines.now.rest.now))) one ∙ ap (λ (k : ℕ). with_front (c.args.first ∷ []) (times_by (next_by node_due) k (lines_of c.args.lines.now.rest.now))) all;
    }

pub returns-in_err-next-clause-exact : goal.returns-in_err-next-clause-exact
returns-in_err-next-clause-exact c =
    let p = err_from_is_err_and c.from_residual-in_err-next.result c.from_residual-in_err-next.ensures.1 in
    rw (p.1, p.2) (times-fails (next_by node_due) _ c.args.edges c.loop-place.place _ _ _ _ c.loop-place-test.true c.in_err-next.ensures.exact c.loop-place.invariant.exact)

pub returns-clause-text : goal.returns-clause-text
returns-clause-text c =
    let before = c.loop-place.invariant.text in
    (before.0, c.from_vec.ensures ∙ before.1, before.2 ∙ omega (arith, c.loop-place-test.false, c.loop-place.auto.place-end), before.3)

pub returns-clause-exact : goal.returns-clause-exact
returns-clause-exact c = rw c.from_vec.ensures (times-ends (next_by node_due) _ c.args.edges c.loop-place.place _ _ c.loop-place-test.false c.loop-place.invariant.exact)
