-- Refusals from the parts that they show.
use Rattle.std.proofs.Common.{◌≡◌, ℕ, List, None}
use Rattle.sd_base.specs.declared.tables.GraphFile.{GraphFile}
use Rattle.sd_base.specs.declared.limits.Quantity.TheVariants as quantities
use Rattle.balance.specs.declared.walk.WalkStep.{WalkStep}
use Rattle.balance.specs.Repetition.{IsApart, IsRatioTooLarge, IsUnbalanced}
use Rattle.report.specs.declared.refusal.Refusal.TheVariants.{Apart, Inconsistent, Ratio}
use Rattle.sd_base.specs.Limits.{greatest_of}
use Rattle.report.specs.WalkTexts.{steps_text}
use Rattle.sd_steps.specs.ActorNames.{actor_shown}
use Rattle.sd_steps.specs.Balancings.{IsBalanceRefusal, apart, ratio, inconsistent}

pub apart-shown : (g : GraphFile) (x y : ℕ) (a b : List ℕ) → IsApart g x y → a ≡ actor_shown g x → b ≡ actor_shown g y → IsBalanceRefusal g (Apart None a b)
apart-shown g x y a b is p q = apart x y is (cc)

pub ratio-shown : (g : GraphFile) (path : List WalkStep) (number : ℕ) (text : List ℕ) → IsRatioTooLarge g path → number ≡ greatest_of quantities.Ratio → text ≡ steps_text g path
    → IsBalanceRefusal g (Ratio None number text)
ratio-shown g path number text is p q = ratio path is (cc)

pub inconsistent-shown : (g : GraphFile) (walk : List WalkStep) (num den : ℕ) (text : List ℕ) → IsUnbalanced g walk num den → text ≡ steps_text g walk
    → IsBalanceRefusal g (Inconsistent None text num den)
inconsistent-shown g walk num den text is p = inconsistent walk num den is (cc)
