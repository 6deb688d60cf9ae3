use Rattle.std.proofs.Common.{◌∙◌, sym, lit<, refl}
use Rattle.cert_text.specs.LineForms.{version_due}
use Rattle.cert_text.proofs.PiecesMakeTexts.{version-small}
use Rattle.cert_text.proofs.reading.version_of.Goals as goal

pub returns-then-is-clause-text : goal.returns-then-is-clause-text
returns-then-is-clause-text c = c.if-is.ensures.text refl ∙ sym (version-small 1 (lit< tt))

pub returns-then-is-2-clause-text : goal.returns-then-is-2-clause-text
returns-then-is-2-clause-text c = c.if-is-2.ensures.text refl ∙ sym (version-small 2 (lit< tt))

pub returns-then-is-clause-exact : goal.returns-then-is-clause-exact
unfolding version_due
returns-then-is-clause-exact c = rw (version-small 1 (lit< tt), ← c.if-is.ensures.exact) refl

pub returns-then-is-2-clause-exact : goal.returns-then-is-2-clause-exact
unfolding version_due
returns-then-is-2-clause-exact c = rw (version-small 1 (lit< tt), version-small 2 (lit< tt), ← c.if-is.ensures.exact, ← c.if-is-2.ensures.exact) refl

pub returns-clause-exact : goal.returns-clause-exact
unfolding version_due
returns-clause-exact c = rw (version-small 1 (lit< tt), version-small 2 (lit< tt), ← c.if-is.ensures.exact, ← c.if-is-2.ensures.exact) refl
