use Rattle.std.proofs.Common.{true≢false, sym, ◌∙◌, arith}
use Rattle.cert_checker.proofs.WalkTimes.{over-time}
use Rattle.cert_checker.proofs.walks.takes.Goals as goal

pub returns-then-so_far-from : goal.returns-then-so_far-from
returns-then-so_far-from c = (
  λ yes. absurd (true≢false (sym yes)),
  λ is. absurd (over-time c.args.graph.now c.loop-rest.so_far c.loop-rest.from c.loop-rest.rest.now _ c.in-Some.weight c.args.time c.in-len1-up.len_at_least
      (rw (c.node_of.ensures, c.node_of-in-len1-up.ensures) at (c.in-Some.ensures ∙ c.requires c.node_of.result c.node_of-in-len1-up.result)) (omega (arith, c.if-so_far-from.true, c.from-so_far.ensures, c.from.ensures)) (c.loop-rest.invariant.same ∙ is)),
)
