use Rattle.std.proofs.Common.{◌≡◌, ◌↔◌, ◌⊎◌, ℕ, length, inl, ⊎_elim, subst, arith}
use Rattle.cert_checker.specs.inside.Spaces.{HasSpace}
use Rattle.cert_checker.proofs.SpaceSets.{HasSpaceBefore, link-more}
use Rattle.cert_checker.proofs.spaces.Spaces.add_all.Goals as goal

pub loop-step-init : goal.loop-step-init
loop-step-init c = λ k channel.
    (λ h. inl h, λ both. ⊎_elim (λ (h : HasSpace c.args.self.now k channel). h) (λ (x : (c.args.number ≡ k) × HasSpaceBefore c.args.steps.now 0 channel). absurd (omega (arith, x.1.1))) both)

pub loop-step-preserved : goal.loop-step-preserved
loop-step-preserved c = λ k channel.
    link-more c.args.steps.now c.loop-step.step-index c.args.number k channel _ (HasSpace c.args.self.now k channel) (HasSpace c.loop-step.self k channel) (HasSpace c.add.new.self k channel) c.loop-step-test.true (c.loop-step.invariant k channel)
    (c.in_ok-add.ensures k channel)

pub returns : goal.returns
returns c = λ k channel.
    let e : c.loop-step.step-index ≡ length c.args.steps.now = omega (arith, c.loop-step-test.false, c.loop-step.auto.step-index-end) in
    subst (λ (n : ℕ). HasSpace c.loop-step.self k channel ↔ (HasSpace c.args.self.now k channel ⊎ ((c.args.number ≡ k) × HasSpaceBefore c.args.steps.now n channel))) e (c.loop-step.invariant k channel)
