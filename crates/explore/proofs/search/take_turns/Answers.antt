use Rattle.std.proofs.Common.{◌≡◌, [], sym, ap, ◌∙◌, subst, arith}
use Rattle.levels.specs.Entrances.{EnterByLevels}
use Rattle.explore.specs.Explorations.{capacities_of, cycles_in}
use Rattle.explore.proofs.VisitsMatchMembers.{counts-few}
use Rattle.explore.proofs.TurnsTakeLevels.{cycles-few}
use Rattle.explore.proofs.search.take_turns.Goals as goal

pub returns-in_err-level-clause-most : goal.returns-in_err-level-clause-most
returns-in_err-level-clause-most g c =
    counts-few (g.F.Firing.net c.args.exploring.now.net.now) c.requires.exploring.explorable c.args.exploring.now.limits c.loop-level.invariant.0.0 [] c.loop-level.search c.loop-level.invariant.0.1 c.args.steps.now.count c.loop-level.steps.count
    (omega (arith, c.loop-level.invariant.1, cycles-few c.loop-level.search.members.items))

pub returns-in_err-take_turn-clause-most : goal.returns-in_err-take_turn-clause-most
returns-in_err-take_turn-clause-most g c =
    let kept : cycles_in c.next_level.new.search.members.items ≡ cycles_in c.loop-level.search.members.items = ap (λ v. cycles_in v.items) c.next_level.ensures.members in
    c.in_err-take_turn.ensures.most c.args.steps.now.count (omega (arith, c.loop-level.invariant.1, kept))

pub returns-clause-most : goal.returns-clause-most
returns-clause-most g c =
    counts-few (g.F.Firing.net c.args.exploring.now.net.now) c.requires.exploring.explorable c.args.exploring.now.limits c.loop-level.invariant.0.0 [] c.loop-level.search c.loop-level.invariant.0.1 c.args.steps.now.count c.loop-level.steps.count
    (omega (arith, c.loop-level.invariant.1, cycles-few c.loop-level.search.members.items))

pub loop-level-preserved : goal.loop-level-preserved
loop-level-preserved g c =
    let net = g.F.Firing.net c.args.exploring.now.net.now in
    let kept : cycles_in c.next_level.new.search.members.items ≡ cycles_in c.loop-level.search.members.items = ap (λ v. cycles_in v.items) c.next_level.ensures.members in (
      c.in_ok-take_turn.ensures.stands,
      omega (arith, c.loop-level.invariant.1, c.in_ok-take_turn.ensures.count, kept),
      c.take_turn.ensures.share ∙ c.loop-level.invariant.2,
      λ before.
          c.in_ok-take_turn.ensures.entered
          (subst (λ v. EnterByLevels net.channels (g.G.Gate.entered c.args.gate.now) (capacities_of v.items)) (sym c.next_level.ensures.members) (c.loop-level.invariant.3 before)),
    )

pub returns-clause-entered : goal.returns-clause-entered
returns-clause-entered g c = λ before.
    let net = g.F.Firing.net c.args.exploring.now.net.now in
    subst (λ v. EnterByLevels net.channels (g.G.Gate.entered c.args.gate.now) (capacities_of v.items)) (sym c.next_level.ensures.members) (c.loop-level.invariant.3 before)
