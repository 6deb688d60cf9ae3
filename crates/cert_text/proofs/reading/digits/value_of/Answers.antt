use Rattle.std.proofs.Common.{◌≡◌, ℕ, ◌+◌, ◌-◌, ◌*◌, ◌<◌, ◌≤◌, ◌∙◌, ap, sym, length, take, arith, ◌^◌}
use Rattle.std.specs.Prelude.{slice_index}
use Rattle.std.specs.Fmt.{decimal}
use Rattle.std.proofs.lemmas.List.{take_all}
use Rattle.cert_text.specs.Fields.{number_value}
use Rattle.cert_text.proofs.DigitsSpellValues.{value-more, value-none, value-least, numeral-decimal}
use Rattle.cert_text.proofs.reading.digits.value_of.Goals as goal
use Rattle.cert_text.proofs.reading.digits.value_of.Goals.{then-digit-limit-via-then-digit-limit, then-digit-limit-via-else-digit-limit+then-number-limit}

pub loop-byte-init : goal.loop-byte-init
loop-byte-init c = record { value = sym (value-none c.args.digits.now); within = omega arith }

pub loop-byte-preserved : goal.loop-byte-preserved
loop-byte-preserved c =
    let i : ℕ = c.loop-byte.byte-index in
    let n : ℕ = c.loop-byte.number in
    let d : ℕ = c.from-digit.result in
    let there : i < length c.args.digits.now = c.loop-byte-test.true in
    let is : d ≡ slice_index c.args.digits.now i - 48 = omega (arith, c.from-digit.ensures) in
    let more = value-more c.args.digits.now i there in
    let so_far : n ≡ number_value (take i c.args.digits.now) = c.loop-byte.invariant.value in
    record {
      value = omega (arith, more, is, so_far);
      within = omega (arith, c.if-digit-limit.false, c.if-number-limit.false);
    }

pub returns-then-digit-limit-clause-exact : goal.returns-then-digit-limit-clause-exact
returns-then-digit-limit-clause-exact c =
    let i : ℕ = c.loop-byte.byte-index in
    let n : ℕ = c.loop-byte.number in
    let d : ℕ = c.from-digit.result in
    let there : i < length c.args.digits.now = c.loop-byte-test.true in
    let is : d ≡ slice_index c.args.digits.now i - 48 = omega (arith, c.from-digit.ensures) in
    let more = value-more c.args.digits.now i there in
    let least = value-least c.args.digits.now (i + 1) in
    let so_far : n ≡ number_value (take i c.args.digits.now) = c.loop-byte.invariant.value in
    let above : c.args.limit < n * 10 + d = elim c.then-digit-limit.branch [
      | then-digit-limit-via-then-digit-limit w ↦ omega (arith, w.if-digit-limit.true)
      | then-digit-limit-via-else-digit-limit+then-number-limit w ↦ omega (arith, w.if-digit-limit.false, w.if-number-limit.true)
    ] in
    omega (arith, above, more, least, so_far, is)

pub returns-clause-text : goal.returns-clause-text
returns-clause-text c =
    let so_far : c.loop-byte.number ≡ number_value (take c.loop-byte.byte-index c.args.digits.now) = c.loop-byte.invariant.value in
    let all : take c.loop-byte.byte-index c.args.digits.now ≡ c.args.digits.now = take_all c.loop-byte.byte-index c.args.digits.now c.loop-byte-test.false in
    let is : c.loop-byte.number ≡ number_value c.args.digits.now = so_far ∙ ap number_value all in
    let within : c.loop-byte.number ≤ c.args.limit = c.loop-byte.invariant.within in
    let small : number_value c.args.digits.now < 10 ^ 64 = omega (arith, is, within, c.ranges.limit.fits) in
    (numeral-decimal c.args.digits.now c.requires small ∙ ap decimal (sym is), within)
