use Rattle.std.proofs.Common.{◌≡◌, length}
use Rattle.escapes.specs.SpelledNames.{is_escaped}
use Rattle.escapes.proofs.spelled.is_escaped.Given as goal

abbrev pub invariant-loop-rest : goal.invariant-loop-rest
invariant-loop-rest l = is_escaped l.rest ≡ is_escaped l.text

abbrev pub decreases-loop-rest : goal.decreases-loop-rest
decreases-loop-rest l = length l.rest
