use Rattle.sd_words.proofs.ReadingGivesSettings.{read-spelled, spelled-read}
use Rattle.sd_words.proofs.laws.words_are_read_as_spelled.Goals as goal

pub returns : goal.returns
returns c = λ words settings. (read-spelled words settings, spelled-read words settings)
