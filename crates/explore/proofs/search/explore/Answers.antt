use Rattle.std.proofs.Common.{◌≡◌, List, [], length, ap, subst, sym, arith}
use Rattle.pareto_front.specs.declared.point.Point.{Point}
use Rattle.levels.specs.Entrances.{EnterByLevels}
use Rattle.explore.specs.declared.exploration.Member.{Member}
use Rattle.explore.specs.Explorations.{IsExploration, capacities_of, cycles_in}
use Rattle.storage.proofs.CornerLists.{corner-distribution}
use Rattle.storage.proofs.EnlargingAddsRoom.{distribution-length}
use Rattle.explore.proofs.CornersBeginSearch.{ended-none}
use Rattle.explore.proofs.CountedLoops.{counts-live}
use Rattle.explore.proofs.CountedPoints.{points-few}
use Rattle.explore.proofs.PointsFormFront.{explored}
use Rattle.explore.proofs.VisitsMatchMembers.{corner-candidate}
use Rattle.explore.proofs.StepsGiveCandidates.{candidate-evaluable}
use Rattle.explore.proofs.search.explore.Goals as goal

pub take_turns-requires-clause-stands : goal.take_turns-requires-clause-stands
take_turns-requires-clause-stands g c = λ κs outlive. (0, c.in_ok-search.ensures.search)

pub take_turns-requires-clause-none : goal.take_turns-requires-clause-none
take_turns-requires-clause-none g c = λ κs outlive. ap cycles_in c.in_ok-search.ensures.members

pub returns-clause-explored : goal.returns-clause-explored
returns-clause-explored g c =
    let net = g.F.Firing.net c.args.net.now in
    let s = c.take_turns.new.search in
    let e = c.into_exploration.result in
    subst (λ (ps : List Point). IsExploration net c.args.limits e.members.items ps) (sym c.into_exploration.ensures.points)
    (subst (λ v. IsExploration net c.args.limits v.items s.front) (sym c.into_exploration.ensures.members)
    (explored net c.know_laws.ensures c.requires.net c.args.limits c.requires.total s.members.items s.front c.in_ok-take_turns.ensures.ended))

pub returns-clause-count : goal.returns-clause-count
returns-clause-count g c =
    let none : cycles_in c.in_ok-search.search.members.items ≡ 0 = ap cycles_in c.in_ok-search.ensures.members in
    let same : cycles_in c.into_exploration.result.members.items ≡ cycles_in c.take_turns.new.search.members.items = ap (λ v. cycles_in v.items) c.into_exploration.ensures.members in
    omega (arith, c.in_ok-take_turns.ensures.count, none, same)

pub total_within-requires : goal.total_within-requires
total_within-requires g c =
    let net = g.F.Firing.net c.args.net.now in
    distribution-length net.channels c.in_ok-first.first.capacities (corner-distribution net.channels c.in_ok-first.first.capacities c.requires.net.plain c.in_ok-first.ensures)

pub wiring_of-requires : goal.wiring_of-requires
wiring_of-requires g c =
    let net = g.F.Firing.net c.args.net.now in
    candidate-evaluable net c.know_laws.ensures c.requires.net c.args.limits.total c.in_ok-first.first.capacities (omega (arith, c.requires.total))
    (corner-candidate net c.args.limits.total c.in_ok-first.first.capacities c.requires.net c.in_ok-first.ensures (omega (arith, c.in-Some.ensures.0, c.in-Some.ensures.1)))

pub returns-in_default-clause-explored : goal.returns-in_default-clause-explored
returns-in_default-clause-explored g c =
    let net = g.F.Firing.net c.args.net.now in
    rw (c.new.ensures.items, c.new-in_default.ensures.items)
    (explored net c.know_laws.ensures c.requires.net c.args.limits c.requires.total [] [] (ended-none net c.args.limits c.in_ok-first.first.capacities c.in_ok-first.ensures c.in_default.ensures))

pub returns-clause-entered : goal.returns-clause-entered
returns-clause-entered g c =
    let net = g.F.Firing.net c.args.net.now in
    let entered = g.G.Gate.entered c.args.gate.now in
    let none : EnterByLevels net.channels entered (capacities_of c.in_ok-search.search.members.items) = subst (λ (ms : List Member). EnterByLevels net.channels entered (capacities_of ms)) (sym c.in_ok-search.ensures.members) tt in
    subst (λ v. EnterByLevels net.channels entered (capacities_of v.items)) (sym c.into_exploration.ensures.members) (c.in_ok-take_turns.ensures.entered none)

pub returns-clause-least : goal.returns-clause-least
returns-clause-least g c =
    let s = c.take_turns.new.search in
    let ended = c.in_ok-take_turns.ensures.ended in
    let few = points-few (g.F.Firing.net c.args.net.now) c.args.limits.states s.members.items ended.entries s.front ended.known in
    let same : length c.into_exploration.result.points.items ≡ length s.front = ap (λ (ps : List Point). length ps) c.into_exploration.ensures.points in
    omega (arith, few, same, c.in_ok-take_turns.ensures.count, ap cycles_in c.in_ok-search.ensures.members)

pub returns-clause-live : goal.returns-clause-live
returns-clause-live g c = λ n rose.
    let net = g.F.Firing.net c.args.net.now in
    let s = c.take_turns.new.search in
    counts-live net c.know_laws.ensures c.args.limits s.members.items s.front
    (explored net c.know_laws.ensures c.requires.net c.args.limits c.requires.total s.members.items s.front c.in_ok-take_turns.ensures.ended) n
    (omega (arith, rose, c.in_ok-take_turns.ensures.count))

pub returns-in_default-clause-live : goal.returns-in_default-clause-live
returns-in_default-clause-live g c = λ n rose.
    let net = g.F.Firing.net c.args.net.now in
    counts-live net c.know_laws.ensures c.args.limits [] []
    (explored net c.know_laws.ensures c.requires.net c.args.limits c.requires.total [] [] (ended-none net c.args.limits c.in_ok-first.first.capacities c.in_ok-first.ensures c.in_default.ensures)) n
    (omega (arith, rose))

pub returns-in_default-clause-entered : goal.returns-in_default-clause-entered
returns-in_default-clause-entered g c = subst (λ (ms : List Member). EnterByLevels (g.F.Firing.net c.args.net.now).channels (g.G.Gate.entered c.args.gate.now) (capacities_of ms)) (sym c.new.ensures.items) tt
