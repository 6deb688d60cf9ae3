use Rattle.std.proofs.Common.{◌≡◌, refl}
use Rattle.report.specs.declared.refusal.Refusal.{Refusal}
use Rattle.report.specs.declared.refusal.Refusal.TheVariants.{UsageWords, UsageMissing, UsageNotFor, UsageBadValue, CertificateNumber, Above, EdgesAt, Ratio, Inconsistent, Apart, OneWay, NoInput, Deadlock, StatesSpent, DistributionsSpent, Rejected, ShelfGraph, ShelfCertificate, ShelfOutput}
use Rattle.report.specs.declared.refusal.Class.TheVariants as class
use Rattle.report.specs.RefusalLines.{cause_of}
use Rattle.report.proofs.refusal.Refusal.class.Goals as goal

-- one that isn't listed is of a form
pub returns-in_default : goal.returns-in_default
unfolding cause_of
returns-in_default c = left c.args.self.now refl
  where
    left : (r : Refusal) → c.args.self.now ≡ r → class.Form ≡ (cause_of r).class
    left UsageWords is = absurd (c.in_default.not-UsageWords is)
    left (UsageMissing option) is = absurd (c.in_default.not-UsageMissing option is)
    left (UsageNotFor option algo) is = absurd (c.in_default.not-UsageNotFor option algo is)
    left (UsageBadValue option) is = absurd (c.in_default.not-UsageBadValue option is)
    left CertificateNumber is = absurd (c.in_default.not-CertificateNumber is)
    left (Above scenario quantity number) is = absurd (c.in_default.not-Above scenario quantity number is)
    left (EdgesAt number at) is = absurd (c.in_default.not-EdgesAt number at is)
    left (Ratio scenario number path) is = absurd (c.in_default.not-Ratio scenario number path is)
    left (Inconsistent scenario walk num den) is = absurd (c.in_default.not-Inconsistent scenario walk num den is)
    left (Apart scenario a b) is = absurd (c.in_default.not-Apart scenario a b is)
    left (OneWay from to) is = absurd (c.in_default.not-OneWay from to is)
    left (NoInput scenario actor) is = absurd (c.in_default.not-NoInput scenario actor is)
    left (Deadlock scenario list) is = absurd (c.in_default.not-Deadlock scenario list is)
    left (StatesSpent states at) is = absurd (c.in_default.not-StatesSpent states at is)
    left (DistributionsSpent number) is = absurd (c.in_default.not-DistributionsSpent number is)
    left (Rejected line reason) is = absurd (c.in_default.not-Rejected line reason is)
    left ShelfGraph is = absurd (c.in_default.not-ShelfGraph is)
    left ShelfCertificate is = absurd (c.in_default.not-ShelfCertificate is)
    left ShelfOutput is = absurd (c.in_default.not-ShelfOutput is)
    left r is = refl
