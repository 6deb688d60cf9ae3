use Rattle.std.proofs.Common.{◌≡◌, ◌+◌, ◌<◌, ◌++◌, sym, ap, subst, arith}
use Rattle.levels.specs.declared.levels.Bounds.{Bounds}
use Rattle.levels.specs.Frontiers.{distributions_of}
use Rattle.scenario_storage.specs.inside.Searches.{IsEndedWith, IsTurnAfter, taken_off}
use Rattle.scenario_storage.proofs.FilesAllowSearch.{searchable}
use Rattle.scenario_storage.proofs.TurnsKeepSearch.{topped-of}
use Rattle.scenario_storage.proofs.search.take_turns.Goals as goal

pub next_level-requires-clause-stands : goal.next_level-requires-clause-stands
next_level-requires-clause-stands g c = (c.loop-level.invariant.0, c.loop-level.invariant.1)

pub take_turn-requires-clause-turn : goal.take_turn-requires-clause-turn
take_turn-requires-clause-turn g c = λ κs outlive.
    let plan = c.args.plan.now in
    let after : IsTurnAfter plan.file.now plan.limits c.loop-level.invariant.0 c.in-Some.level c.next_level.new.search = rw c.in-Some.is at c.in_ok-level.ensures.level c.loop-level.invariant.0 c.loop-level.invariant.1 in
    after.0

pub loop-level-preserved : goal.loop-level-preserved
loop-level-preserved g c =
    let plan = c.args.plan.now in
    let all = c.loop-level.invariant.0 in
    let after : IsTurnAfter plan.file.now plan.limits all c.in-Some.level c.next_level.new.search = rw c.in-Some.is at c.in_ok-level.ensures.level all c.loop-level.invariant.1 in (
      all ++ distributions_of c.in-Some.level.visits.items,
      (c.in-Some.level.total + 1, c.in_ok-take_turn.ensures.stands all after),
      c.in_ok-take_turn.ensures.entered all after c.loop-level.invariant.2,
    )

pub loop-level-smaller : goal.loop-level-smaller
loop-level-smaller g c =
    let plan = c.args.plan.now in
    let all = c.loop-level.invariant.0 in
    let after : IsTurnAfter plan.file.now plan.limits all c.in-Some.level c.next_level.new.search = rw c.in-Some.is at c.in_ok-level.ensures.level all c.loop-level.invariant.1 in
    let more : taken_off c.loop-level.search < taken_off c.next_level.new.search = rw c.in-Some.is at c.in_ok-level.ensures.off in
    let s = (c.in_ok-take_turn.ensures.stands all after).0 in
    let most : c.take_turn.new.search.levels.bounds.distributions ≡ plan.limits.distributions = ap (λ (b : Bounds). b.distributions) s.bounds in
    omega (arith, more, c.in_ok-take_turn.ensures.off, s.frontier.few, most)

pub returns-then-last-clause-ended : goal.returns-then-last-clause-ended
returns-then-last-clause-ended g c =
    let plan = c.args.plan.now in
    let all = c.loop-level.invariant.0 in
    let after : IsTurnAfter plan.file.now plan.limits all c.in-Some.level c.next_level.new.search = rw c.in-Some.is at c.in_ok-level.ensures.level all c.loop-level.invariant.1 in
    let more = all ++ distributions_of c.in-Some.level.visits.items in (
      more,
      topped-of plan.file.now plan.limits (searchable plan.file.now plan.limits.total c.requires.plan.bounded) c.in-Some.level.total c.take_turn.new.search more (c.in_ok-take_turn.ensures.stands all after) after.0.within c.if-last.true,
      c.in_ok-take_turn.ensures.entered all after c.loop-level.invariant.2,
    )

pub returns-clause-ended : goal.returns-clause-ended
returns-clause-ended g c =
    let plan = c.args.plan.now in
    let all = c.loop-level.invariant.0 in
    let ended : IsEndedWith plan.file.now plan.limits all c.loop-level.search.points.items = rw c.in_default.is at c.in_ok-level.ensures.level all c.loop-level.invariant.1 in
    (all, subst (λ v. IsEndedWith plan.file.now plan.limits all v.items) (sym c.next_level.ensures.points) ended, c.loop-level.invariant.2)
