use Rattle.std.proofs.Common.{arith}
use Rattle.cert_text.specs.Digits.{IsNumeral}
use Rattle.cert_text.proofs.DigitsSpellValues.{number-none, number-some, number-digits, split-parts}
use Rattle.cert_text.proofs.reading.line.Line.digits.Goals as goal

pub returns-then-not-is_numeral-clause-exact : goal.returns-then-not-is_numeral-clause-exact
returns-then-not-is_numeral-clause-exact c = number-none c.args.self.now.rest.now c.split_at.result.0.now c.digits_before.result c.digits_before.ensures.place c.split_at.ensures.front c.if-not-is_numeral.ensures

pub returns-clause-text : goal.returns-clause-text
returns-clause-text c =
    let numeral : IsNumeral c.split_at.result.0.now = number-digits c.args.self.now.rest.now c.split_at.result.0.now c.digits_before.result c.digits_before.ensures.within c.split_at.ensures.front c.digits_before.ensures.digits c.if-not-is_numeral.ensures in
    (split-parts c.args.self.now.rest.now c.split_at.result.0.now c.split_at.result.1.now c.digits_before.result c.split_at.ensures.front c.split_at.ensures.back, numeral, omega (arith, numeral.some, c.split_at.ensures.front_len, c.split_at.ensures.back_len))

pub returns-clause-exact : goal.returns-clause-exact
returns-clause-exact c = number-some c.args.self.now.rest.now c.split_at.result.0.now c.split_at.result.1.now c.digits_before.result c.digits_before.ensures.place c.split_at.ensures.front c.split_at.ensures.back c.if-not-is_numeral.ensures
