-- The repetition vector of a graph, or why there is none within the limits.
use Rattle.std.specs.Prelude.{◌≡◌, ℕ, List, None}
use Rattle.sd_base.specs.declared.tables.GraphFile.{GraphFile}
use Rattle.sd_base.specs.declared.limits.Quantity.TheVariants as quantities
use Rattle.balance.specs.declared.walk.WalkStep.{WalkStep}
use Rattle.balance.specs.Repetition.{IsRound, IsApart, IsRatioTooLarge, IsUnbalanced, IsRoundTooLarge}
use Rattle.report.specs.declared.refusal.Refusal.{Refusal}
use Rattle.report.specs.declared.refusal.Refusal.TheVariants.{Above, Ratio, Inconsistent, Apart}
use Rattle.sd_base.specs.Limits.{greatest_of}
use Rattle.report.specs.QuantityWords.{quantity_text}
use Rattle.report.specs.WalkTexts.{steps_text}
use Rattle.sd_steps.specs.ActorNames.{actor_shown}
use Rattle.sd_steps.specs.Courses.{Step, deciding}

-- a refusal that is due to the balance of a graph
pub data IsBalanceRefusal (graph : GraphFile) (refusal : Refusal) : Type 0 where
  apart : (x y : ℕ) → IsApart graph x y → refusal ≡ Apart None (actor_shown graph x) (actor_shown graph y) → IsBalanceRefusal graph refusal
  ratio : (path : List WalkStep) → IsRatioTooLarge graph path
      → refusal ≡ Ratio None (greatest_of quantities.Ratio) (steps_text graph path) → IsBalanceRefusal graph refusal
  inconsistent : (walk : List WalkStep) (num den : ℕ) → IsUnbalanced graph walk num den
      → refusal ≡ Inconsistent None (steps_text graph walk) num den → IsBalanceRefusal graph refusal
  above : IsRoundTooLarge graph → refusal ≡ Above None (quantity_text quantities.Round) (greatest_of quantities.Round) → IsBalanceRefusal graph refusal

abbrev pub balancing : GraphFile → Step (List ℕ)
balancing graph = deciding (λ gamma. IsRound graph gamma) (λ refusal. IsBalanceRefusal graph refusal)
