use Rattle.std.proofs.Common.{ℕ, List, subst}
use Rattle.std.proofs.lemmas.List.{take_all}
use Rattle.token_matrix.specs.inside.RoundRows.{StandsAfter}
use Rattle.token_matrix.proofs.round.run_round.Goals as goal

pub fire-requires : goal.fire-requires
fire-requires g c = (
  c.requires.0,
  record {
    round = c.requires.1.round;
    within = c.loop-place-test.true;
    phases = c.requires.1.phases;
    fed = c.requires.1.fed;
    stands = c.loop-place.invariant c.requires.0 c.requires.1.stands;
  },
)

pub returns : goal.returns
returns g c = λ first stands.
    subst (λ (order : List ℕ). StandsAfter (g.F.Firing.net c.args.net.now) first c.args.size order c.loop-place.lines)
    (take_all c.loop-place.place c.args.order.now c.loop-place-test.false) (c.loop-place.invariant first stands)
