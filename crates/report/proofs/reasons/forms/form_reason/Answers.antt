use Rattle.std.proofs.Common.{◌≡◌, refl}
use Rattle.report.specs.declared.refusal.Refusal.{Refusal}
use Rattle.report.specs.declared.refusal.Refusal.TheVariants.{Text, DocumentType, CdataSection, Instruction, CharReference, Encoding, WrongKind, Missing, Unknown, Twice, BadWord, BadNumber, PhasesDiffer, SharedDiffers, NoSuccessor, UnknownChannel, SelfLoopBuffer, BelowTokens, UnknownActor, TwoProcessors, OrderCount, CertificateLine}
use Rattle.report.specs.declared.refusal.Class.TheVariants as class
use Rattle.report.specs.RefusalLines.{cause_of}
use Rattle.report.proofs.reasons.forms.form_reason.Goals as goal

pub unreachable-requires : goal.unreachable-requires
unfolding cause_of
unreachable-requires c = only c.args.refusal.now refl c.requires
  where
    only : (r : Refusal) → c.args.refusal.now ≡ r → (cause_of r).class ≡ class.Form → ⊥
    only (Text place) is of = c.in_default.not-Text place is
    only (DocumentType place) is of = c.in_default.not-DocumentType place is
    only (CdataSection place) is of = c.in_default.not-CdataSection place is
    only (Instruction place) is of = c.in_default.not-Instruction place is
    only (CharReference place) is of = c.in_default.not-CharReference place is
    only (Encoding place) is of = c.in_default.not-Encoding place is
    only WrongKind is of = c.in_default.not-WrongKind is
    only (Missing what whose) is of = c.in_default.not-Missing what whose is
    only (Unknown what name) is of = c.in_default.not-Unknown what name is
    only (Twice what name) is of = c.in_default.not-Twice what name is
    only (BadWord what whose) is of = c.in_default.not-BadWord what whose is
    only (BadNumber what whose) is of = c.in_default.not-BadNumber what whose is
    only (PhasesDiffer actor) is of = c.in_default.not-PhasesDiffer actor is
    only (SharedDiffers name) is of = c.in_default.not-SharedDiffers name is
    only (NoSuccessor name) is of = c.in_default.not-NoSuccessor name is
    only (UnknownChannel name) is of = c.in_default.not-UnknownChannel name is
    only (SelfLoopBuffer name) is of = c.in_default.not-SelfLoopBuffer name is
    only (BelowTokens name) is of = c.in_default.not-BelowTokens name is
    only (UnknownActor name) is of = c.in_default.not-UnknownActor name is
    only (TwoProcessors name) is of = c.in_default.not-TwoProcessors name is
    only (OrderCount name found gamma) is of = c.in_default.not-OrderCount name found gamma is
    only (CertificateLine line) is of = c.in_default.not-CertificateLine line is
    only r is of = cc
