use Rattle.std.proofs.Common.{◌≡◌, length}
use Rattle.file_text.specs.Grammar.{is_white}
use Rattle.graph_reader.specs.NumberTexts.{drop_while}
use Rattle.graph_reader.proofs.numbers.without_white.Given as goal

abbrev pub invariant-loop-left : goal.invariant-loop-left
invariant-loop-left l = drop_while is_white l.left ≡ drop_while is_white l.text

abbrev pub decreases-loop-left : goal.decreases-loop-left
decreases-loop-left l = length l.left
