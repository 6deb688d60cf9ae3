-- What the words ask for.
use Rattle.std.specs.Prelude.{◌≡◌, ℕ, List, Ok, Err}
use Rattle.sd_words.specs.declared.request.Request.{Request}
use Rattle.sd_words.specs.declared.request.UsageCause.{UsageCause}
use Rattle.sd_words.specs.declared.request.UsageCause.TheVariants as causes
use Rattle.sd_words.specs.OptionWords.{algorithm_word, option_word}
use Rattle.sd_words.specs.Asked.{request_of}
use Rattle.report.specs.declared.refusal.Refusal.{Refusal}
use Rattle.report.specs.declared.refusal.Refusal.TheVariants.{UsageWords, UsageMissing, UsageNotFor, UsageBadValue}
use Rattle.sd_steps.specs.Courses.{Step, deciding}

-- the refusal of words that aren't those of a command
abbrev pub usage_refusal : UsageCause → Refusal
usage_refusal causes.Words = UsageWords
usage_refusal (causes.Missing option) = UsageMissing (option_word option)
usage_refusal (causes.NotFor option algo) = UsageNotFor (option_word option) (algorithm_word algo)
usage_refusal (causes.BadValue option) = UsageBadValue (option_word option)

pub record IsUsageRefusal (words : List (List ℕ)) (refusal : Refusal) : Type 0 where
  pub cause : UsageCause
  pub asked : request_of words ≡ Err cause
  pub told : refusal ≡ usage_refusal cause

abbrev pub asking : List (List ℕ) → Step Request
asking words = deciding (λ request. request_of words ≡ Ok request) (λ refusal. IsUsageRefusal words refusal)
