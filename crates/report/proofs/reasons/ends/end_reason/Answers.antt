use Rattle.std.proofs.Common.{◌≡◌, refl}
use Rattle.report.specs.declared.refusal.Refusal.{Refusal}
use Rattle.report.specs.declared.refusal.Refusal.TheVariants.{StatesSpent, DistributionsSpent, Rejected, ShelfGraph, ShelfCertificate, ShelfOutput}
use Rattle.report.specs.RefusalLines.{cause_of}
use Rattle.report.specs.inside.Classes.{IsOfEnd}
use Rattle.report.proofs.reasons.ends.end_reason.Goals as goal

pub unreachable-requires : goal.unreachable-requires
unfolding cause_of
unreachable-requires c = only c.args.refusal.now refl c.requires
  where
    only : (r : Refusal) → c.args.refusal.now ≡ r → IsOfEnd (cause_of r).class → ⊥
    only (StatesSpent states at) is of = c.in_default.not-StatesSpent states at is
    only (DistributionsSpent number) is of = c.in_default.not-DistributionsSpent number is
    only (Rejected line reason) is of = c.in_default.not-Rejected line reason is
    only ShelfGraph is of = c.in_default.not-ShelfGraph is
    only ShelfCertificate is of = c.in_default.not-ShelfCertificate is
    only ShelfOutput is of = c.in_default.not-ShelfOutput is
    only r is of = of
