use Rattle.std.proofs.Common.{◌∙◌}
use Rattle.sd_words.proofs.PlacesHoldValues.{seen-list}
use Rattle.sd_words.proofs.checks.read_values.Goals as goal

pub returns-clause-read : goal.returns-clause-read
returns-clause-read c = c.new.ensures ∙ seen-list _ _ c.in_ok-values.ensures.read
