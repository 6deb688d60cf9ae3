use Rattle.std.proofs.Common.{◌≡◌, ℕ, suc, ◌≤◌, ◌<◌, ◌⊎◌, ⊎_elim, subst, arith, rules}
use Rattle.std.proofs.lemmas.Bool.{cases_lt}
use Rattle.test_explore.specs.Neighbours.{AreJoined}
use Rattle.test_explore.proofs.checks.are_joined.Goals as goal

pub loop-actor-preserved : goal.loop-actor-preserved
loop-actor-preserved g c = λ a below.
    let net = g.F.Firing.net c.args.net.now in
    let here : AreJoined net c.loop-actor.actor (suc c.loop-actor.actor) = c.is_joined.ensures (search rules) in
    ⊎_elim
    (λ (less : a < c.loop-actor.actor). c.loop-actor.invariant a less)
    (λ (past : c.loop-actor.actor ≤ a). let same : c.loop-actor.actor ≡ a = omega arith in subst (λ (x : ℕ). AreJoined net x (suc x)) same here)
    (cases_lt a c.loop-actor.actor)
