use Rattle.std.proofs.Common.{ℕ, ◌≤◌, arith, below_more}
use Rattle.test_nets.specs.Ends.{IsLinkedBack}
use Rattle.test_nets.proofs.BackLinks.{are-connected}
use Rattle.test_nets.proofs.checks.is_joined.Goals as goal

pub loop-actor-preserved : goal.loop-actor-preserved
loop-actor-preserved g c = λ a some below.
    below_more (λ (b : ℕ). 1 ≤ b → IsLinkedBack (g.F.Firing.net c.args.net.now) b) c.loop-actor.actor (λ b less one. c.loop-actor.invariant b one less)
    (λ one. c.is_linked_back.ensures.0 c.if-not-is_linked_back.false) a below some

pub returns-clause-joined : goal.returns-clause-joined
returns-clause-joined g c = λ yes. are-connected (g.F.Firing.net c.args.net.now) (λ a some below. c.loop-actor.invariant a some (omega (arith, below, c.actors-actor-end.ensures, c.loop-actor-test.false)))
