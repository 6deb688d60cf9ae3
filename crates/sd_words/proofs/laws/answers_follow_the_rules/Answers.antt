use Rattle.std.proofs.Common.{inl, refl}
use Rattle.sd_words.specs.declared.request.UsageCause.TheVariants.{Words}
use Rattle.sd_words.proofs.AnswersFollowRules.{asks, asked, asks_nothing, nothing_asked, misspelled}
use Rattle.sd_words.proofs.AskedNumbersFit.{asked_within}
use Rattle.sd_words.proofs.laws.answers_follow_the_rules.Goals as goal

pub returns-clause-request : goal.returns-clause-request
returns-clause-request c = λ words request. (asks words request, asked words request)

pub returns-clause-within : goal.returns-clause-within
returns-clause-within c = asked_within

pub returns-clause-cause : goal.returns-clause-cause
returns-clause-cause c = λ words cause. (asks_nothing words cause, nothing_asked words cause)

pub returns-clause-words : goal.returns-clause-words
returns-clause-words c = λ words. (misspelled words, λ none. nothing_asked words Words (inl (none, refl)))
