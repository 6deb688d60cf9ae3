use Rattle.std.proofs.Common.{◌≡◌, ◌∙◌, sym, rules}
use Rattle.cert_text.proofs.WordsLeaveTheRest.{behind-ok, behind-short, behind-other}
use Rattle.cert_text.proofs.reading.line.Line.word.Goals as goal

pub returns-then-self-word-clause-exact : goal.returns-then-self-word-clause-exact
returns-then-self-word-clause-exact c = behind-short c.args.word.now c.args.self.now.rest.now c.if-self-word.true

pub returns-then-ne-clause-exact : goal.returns-then-ne-clause-exact
returns-then-ne-clause-exact c =
    let other : c.split_at.result.0.now ≡ c.args.word.now → ⊥ = search rules in
    behind-other c.args.word.now c.args.self.now.rest.now (λ e. other (c.split_at.ensures.front ∙ e))

pub returns-clause-exact : goal.returns-clause-exact
returns-clause-exact c =
    let same : c.split_at.result.0.now ≡ c.args.word.now = search rules in
    rw c.split_at.ensures.back (behind-ok c.args.word.now c.args.self.now.rest.now (sym c.split_at.ensures.front ∙ same))
