use Rattle.std.proofs.Common.{◌≡◌, refl}
use Rattle.report.specs.declared.refusal.Refusal.{Refusal}
use Rattle.report.specs.declared.refusal.Refusal.TheVariants.{Inconsistent, Apart, OneWay, NoInput, Deadlock}
use Rattle.report.specs.RefusalLines.{cause_of}
use Rattle.report.specs.inside.Classes.{IsOfNet}
use Rattle.report.proofs.reasons.nets.net_reason.Goals as goal

pub unreachable-requires : goal.unreachable-requires
unfolding cause_of
unreachable-requires c = only c.args.refusal.now refl c.requires
  where
    only : (r : Refusal) → c.args.refusal.now ≡ r → IsOfNet (cause_of r).class → ⊥
    only (Inconsistent scenario walk num den) is of = c.in_default.not-Inconsistent scenario walk num den is
    only (Apart scenario a b) is of = c.in_default.not-Apart scenario a b is
    only (OneWay from to) is of = c.in_default.not-OneWay from to is
    only (NoInput scenario actor) is of = c.in_default.not-NoInput scenario actor is
    only (Deadlock scenario list) is of = c.in_default.not-Deadlock scenario list is
    only r is of = of
