use Rattle.std.proofs.Common.{length}
use Rattle.test_cases.proofs.escape.put_escaped.Given as goal

abbrev pub decreases-loop-first : goal.decreases-loop-first
decreases-loop-first l = length l.rest
