use Rattle.std.proofs.Common.{◌≡◌, [], None, Some, get_or, refl, sym, ap, ◌∙◌, rules}
use Rattle.std.proofs.lemmas.Result.{err_from_is_err_and}
use Rattle.sd_words.specs.Reading.{◌>>=◌, settings_of, finished}
use Rattle.sd_words.proofs.TurnsGoOrEnd.{fails, with_words-fails, with_words-goes, with_words-end}
use Rattle.sd_words.proofs.ReadingGivesSettings.{free}
use Rattle.sd_words.proofs.spelling.test_spelling.Goals as goal

pub loop-word-init : goal.loop-word-init
loop-word-init c = (free [], (search rules, refl), refl)

pub returns-in_err-take : goal.returns-in_err-take
unfolding settings_of
returns-in_err-take c =
    let e = err_from_is_err_and c.from_residual.result c.from_residual.ensures.1 in
    let inv = c.loop-word.invariant in
    let at : c.as_str.result.now ≡ get_or c.args.words.now c.loop-word.word-index c.as_str.result.now = rw c.as_str.ensures c.word-item.is in
    rw (e.1, e.2) (fails _ _ _
    (λ cause f. ap (λ r. r >>= finished) (sym inv.2 ∙ with_words-fails inv.0 c.args.words.now c.loop-word.word-index _ cause c.loop-word-test.true at f))
    (c.in_err-take.ensures inv.0 inv.1))

pub loop-word-preserved : goal.loop-word-preserved
loop-word-preserved c =
    let inv = c.loop-word.invariant in
    let at : c.as_str.result.now ≡ get_or c.args.words.now c.loop-word.word-index c.as_str.result.now = rw c.as_str.ensures c.word-item.is in
    let next = c.in_ok-take.ensures inv.0 inv.1 in
    (next.0, next.2, with_words-goes inv.0 next.0 c.args.words.now c.loop-word.word-index _ c.loop-word-test.true at next.1 ∙ inv.2)

pub returns-in-None : goal.returns-in-None
unfolding settings_of finished
returns-in-None c =
    let inv = c.loop-word.invariant in
    let all = sym inv.2 ∙ with_words-end inv.0 c.args.words.now c.loop-word.word-index c.loop-word-test.false in
    let none : inv.0.due ≡ None = sym inv.1.1 ∙ rw c.in-None.is refl in
    (inv.0.settings, ap (λ r. r >>= finished) all ∙ rw none refl)

pub returns : goal.returns
unfolding settings_of finished
returns c =
    let inv = c.loop-word.invariant in
    let all = sym inv.2 ∙ with_words-end inv.0 c.args.words.now c.loop-word.word-index c.loop-word-test.false in
    let some : inv.0.due ≡ Some c.in-Some.field-0.now = sym inv.1.1 ∙ rw c.in-Some.is refl in
    rw c.from.ensures (ap (λ r. r >>= finished) all ∙ rw some refl)
