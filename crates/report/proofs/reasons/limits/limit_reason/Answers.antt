use Rattle.std.proofs.Common.{◌≡◌, refl}
use Rattle.report.specs.declared.refusal.Refusal.{Refusal}
use Rattle.report.specs.declared.refusal.Refusal.TheVariants.{CertificateNumber, Above, EdgesAt, Ratio}
use Rattle.report.specs.declared.refusal.Class.TheVariants as class
use Rattle.report.specs.RefusalLines.{cause_of}
use Rattle.report.proofs.reasons.limits.limit_reason.Goals as goal

pub unreachable-requires : goal.unreachable-requires
unfolding cause_of
unreachable-requires c = only c.args.refusal.now refl c.requires
  where
    only : (r : Refusal) → c.args.refusal.now ≡ r → (cause_of r).class ≡ class.Limit → ⊥
    only CertificateNumber is of = c.in_default.not-CertificateNumber is
    only (Above scenario quantity number) is of = c.in_default.not-Above scenario quantity number is
    only (EdgesAt number at) is of = c.in_default.not-EdgesAt number at is
    only (Ratio scenario number path) is of = c.in_default.not-Ratio scenario number path is
    only r is of = cc
