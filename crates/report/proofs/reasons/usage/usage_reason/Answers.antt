use Rattle.std.proofs.Common.{◌≡◌, refl}
use Rattle.report.specs.declared.refusal.Refusal.{Refusal}
use Rattle.report.specs.declared.refusal.Refusal.TheVariants.{UsageWords, UsageMissing, UsageNotFor, UsageBadValue}
use Rattle.report.specs.declared.refusal.Class.TheVariants as class
use Rattle.report.specs.RefusalLines.{cause_of}
use Rattle.report.proofs.reasons.usage.usage_reason.Goals as goal

pub unreachable-requires : goal.unreachable-requires
unfolding cause_of
unreachable-requires c = only c.args.refusal.now refl c.requires
  where
    only : (r : Refusal) → c.args.refusal.now ≡ r → (cause_of r).class ≡ class.Usage → ⊥
    only UsageWords is of = c.in_default.not-UsageWords is
    only (UsageMissing option) is of = c.in_default.not-UsageMissing option is
    only (UsageNotFor option algo) is of = c.in_default.not-UsageNotFor option algo is
    only (UsageBadValue option) is of = c.in_default.not-UsageBadValue option is
    only r is of = cc
