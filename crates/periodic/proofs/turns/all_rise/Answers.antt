use Rattle.std.proofs.Common.{sym, ◌∙◌, true≢false, arith}
use Rattle.periodic.proofs.turns.all_rise.Goals as goal

pub returns-then-not-rises : goal.returns-then-not-rises
returns-then-not-rises g c = (
  λ yes. absurd (true≢false (sym yes)),
  λ all. sym c.if-not-rises.true ∙ c.rises.ensures.1 (rw c.row.ensures (all c.loop-actor.actor (omega (arith, c.actors-actor-end.ensures, c.loop-actor-test.true)))),
)
