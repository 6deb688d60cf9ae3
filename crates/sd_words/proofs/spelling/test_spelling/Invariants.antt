use Rattle.std.proofs.Common.{◌≡◌, [], None, drop}
use Rattle.sd_words.specs.Reading.{Progress, with_words}
use Rattle.sd_words.specs.Parts.{Sees}
use Rattle.sd_words.proofs.spelling.test_spelling.Given as goal

-- the reader has come as far as the reading
abbrev pub invariant-loop-word : goal.invariant-loop-word
invariant-loop-word l = (p : Progress) × Sees l.reader p × (with_words p (drop l.word-index l.words) ≡ with_words (record { settings = []; due = None }) l.words)
