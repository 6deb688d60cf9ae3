use Rattle.selftimed.proofs.TimesLeft.{LeftAgree}
use Rattle.selftimed.proofs.compare.same_left.Given as goal

abbrev pub invariant-loop-k : goal.invariant-loop-k
invariant-loop-k l = LeftAgree l.now l.runs l.then l.others l.k
