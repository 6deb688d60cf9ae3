use Rattle.std.proofs.Common.{◌≡◌, ◌↔◌, ◌⊎◌, List, ap, refl, subst, sym, ◌∙◌, arith}
use Rattle.cert_text.specs.declared.certificates.LinkCycle.{LinkCycle}
use Rattle.cert_text.specs.declared.certificates.LinkStep.{LinkStep}
use Rattle.cert_text.specs.MemberLines.{cycle_at, no_cycle}
use Rattle.cert_checker.specs.inside.ShownAt.{HasSpaceLink}
use Rattle.cert_checker.specs.inside.Spaces.{HasSpace}
use Rattle.cert_checker.proofs.AnswersJudgeLines.{item-of}
use Rattle.cert_checker.proofs.SpaceSets.{cycle-more, linked-below, space-none}
use Rattle.cert_checker.proofs.spaces.Spaces.of.Goals as goal

pub loop-number-init : goal.loop-number-init
loop-number-init c = λ k channel. (λ has. absurd (space-none k channel c.new.result c.new.ensures.empty has), λ at. absurd (omega (arith, at.0)))

pub loop-number-preserved : goal.loop-number-preserved
loop-number-preserved c = λ k channel.
    let n = c.loop-number.number in
    let item : c.index-cycles-number.result ≡ cycle_at c.args.cycles.now n = item-of c.args.cycles.now c.args.cycles.now n c.index-cycles-number.result no_cycle refl c.loop-number-test.true c.index-cycles-number.is in
    let steps : c.as_slice.result.now ≡ (cycle_at c.args.cycles.now n).steps = c.as_slice.ensures ∙ ap (λ (x : LinkCycle). x.steps) (sym c.index-cycles-number.is ∙ item) in
    cycle-more c.args.cycles.now n k channel (HasSpace c.loop-number.spaces k channel) (HasSpace c.add_all.new.self k channel) (c.loop-number.invariant k channel)
    (subst (λ (ls : List LinkStep). HasSpace c.add_all.new.self k channel ↔ (HasSpace c.loop-number.spaces k channel ⊎ ((n ≡ k) × HasSpaceLink ls channel))) steps (c.in_ok-add_all.ensures k channel))

pub returns : goal.returns
returns c = λ k channel. (
  λ has. ((c.loop-number.invariant k channel).0 has).1,
  λ link. (c.loop-number.invariant k channel).1 (omega (arith, linked-below c.args.cycles.now k channel link, c.loop-number-test.false), link),
)
