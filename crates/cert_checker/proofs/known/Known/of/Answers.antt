use Rattle.std.proofs.Common.{◌≡◌, ◌<◌, ℕ, length, ap, refl, subst, sym, ◌∙◌, arith}
use Rattle.cert_text.specs.declared.certificates.MemberLine.{MemberLine}
use Rattle.cert_checker.specs.ShownChannels.{member_at, no_member}
use Rattle.cert_checker.specs.inside.KnownSets.{IsNumber, number_of}
use Rattle.cert_checker.proofs.AnswersJudgeLines.{item-of}
use Rattle.cert_checker.proofs.KnownLists.{numbers-more, numbers-none}
use Rattle.cert_checker.proofs.known.Known.of.Goals as goal

pub loop-number-init : goal.loop-number-init
loop-number-init c = numbers-none c.args.members.now c.new-numbers.result c.new-numbers.ensures.empty

pub loop-number-preserved : goal.loop-number-preserved
loop-number-preserved c =
    let n = c.loop-number.number in
    let below : n < length c.args.members.now = omega (arith, c.loop-number-test.true) in
    let m : c.index-members-number.result ≡ member_at c.args.members.now n = item-of c.args.members.now c.args.members.now n c.index-members-number.result no_member refl below c.index-members-number.is in
    numbers-more c.args.members.now n c.loop-number.numbers c.insert.new.self c.as_slice-capacities.result (c.as_slice-capacities.ensures ∙ ap (λ (x : MemberLine). x.capacities.capacities) (sym c.index-members-number.is ∙ m)) c.in_ok-insert.ensures.updates.0
    c.loop-number.invariant

pub returns : goal.returns
returns c = λ ds.
    let e : c.loop-number.number ≡ length c.args.members.now = omega (arith, c.loop-number-test.false, c.loop-number.auto.number-end) in
    subst (λ (n : ℕ). IsNumber c.args.members.now n ds (number_of (record { numbers = c.loop-number.numbers }) ds)) e (c.loop-number.invariant ds)
