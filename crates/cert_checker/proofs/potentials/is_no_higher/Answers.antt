use Rattle.std.proofs.Common.{arith}
use Rattle.std.proofs.lemmas.Int.{ints}
use Rattle.cert_checker.proofs.potentials.is_no_higher.Goals as goal

pub returns-else-x-more : goal.returns-else-x-more
returns-else-x-more c = (
  λ yes. omega (arith, ints, c.is_at_most.ensures.0 yes),
  λ le. c.is_at_most.ensures.1 (omega (arith, ints)),
)

pub returns-else-y-less : goal.returns-else-y-less
returns-else-y-less c = (
  λ yes. omega (arith, ints, c.is_at_most-else-gain-slack.ensures.0 yes),
  λ le. c.is_at_most-else-gain-slack.ensures.1 (omega (arith, ints)),
)
