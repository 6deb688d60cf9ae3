use Rattle.std.proofs.Common.{◌≡◌, ◌≤◌, length, ap, subst, sym, arith}
use Rattle.std.proofs.lemmas.List.Elements.{All-contains}
use Rattle.storage.proofs.CornerLists.{corner-distribution}
use Rattle.storage.proofs.EnlargingAddsRoom.{distribution-length}
use Rattle.explore.proofs.VisitsMatchMembers.{corner-candidate}
use Rattle.explore.proofs.StepsGiveCandidates.{candidate-evaluable}
use Rattle.pareto_search.specs.TradeOffs.{IsTradeOff}
use Rattle.pareto_search.specs.inside.Grounds.{IsGround}
use Rattle.pareto_search.specs.inside.Knowledge.{IsTold, loops_in}
use Rattle.pareto_search.proofs.SearchesEndInFronts.{trade-off, trade-off-none}
use Rattle.pareto_search.proofs.LiveEntered.{enters-none, evaluating-known, evaluating-none}
use Rattle.pareto_search.proofs.LiveTellings.{counts-live, counts-none}
use Rattle.pareto_search.proofs.PointCounts.{points-few}
use Rattle.pareto_search.proofs.search.pareto_points.Goals as goal

pub total_within-requires : goal.total_within-requires
total_within-requires g c =
    let net = g.F.Firing.net c.args.net.now in
    distribution-length net.channels c.in_ok-corner.corner.capacities (corner-distribution net.channels c.in_ok-corner.corner.capacities c.requires.net.plain c.in_ok-corner.ensures)

pub wiring_of-requires : goal.wiring_of-requires
wiring_of-requires g c =
    let net = g.F.Firing.net c.args.net.now in
    candidate-evaluable net c.know_laws.ensures c.requires.net c.args.limits.total c.in_ok-corner.corner.capacities (omega (arith, c.requires.total))
    (corner-candidate net c.args.limits.total c.in_ok-corner.corner.capacities c.requires.net c.in_ok-corner.ensures (omega (arith, c.in-Some.ensures.0, c.in-Some.ensures.1)))

pub returns-in_default-clause-points : goal.returns-in_default-clause-points
returns-in_default-clause-points g c =
    let net = g.F.Firing.net c.args.net.now in
    rw c.new.ensures.items (trade-off-none net c.know_laws.ensures c.args.limits c.in_ok-corner.corner.capacities c.in_ok-corner.ensures c.in_default.ensures)

pub take_turns-requires-clause-standing : goal.take_turns-requires-clause-standing
take_turns-requires-clause-standing g c = λ κs outlive. (0, c.in_ok-searching.ensures.standing)

pub returns-clause-points : goal.returns-clause-points
returns-clause-points g c =
    let net = g.F.Firing.net c.args.net.now in
    let corner = c.in_ok-corner.corner.capacities in
    let base : IsGround net c.args.limits c.in_ok-corner.corner.capacities c.in_ok-lattice.lattice = record { laws = c.know_laws.ensures; explorable = c.requires.net; small = c.requires.total; is_corner = c.in_ok-corner.ensures; axes = c.in_ok-lattice.ensures.axes; limit = c.in_ok-lattice.ensures.limit } in
    subst (λ v. IsTradeOff net c.args.limits v.items) (sym c.into_points.ensures) (trade-off net c.args.limits corner c.in_ok-lattice.lattice base c.take_turns.new.searching c.in_ok-take_turns.ensures.over)

pub returns-clause-least : goal.returns-clause-least
returns-clause-least g c =
    let net = g.F.Firing.net c.args.net.now in
    let s = c.take_turns.new.searching in
    let is = c.in_ok-take_turns.ensures.over.standing in
    let corner = c.in_ok-corner.corner.capacities in
    let lattice = c.in_ok-lattice.lattice in
    let few : length s.points.items ≤ loops_in s.known.tellings.items = points-few net c.args.limits corner lattice s.known.tellings.items s.points.items (λ t one. All-contains (IsTold net c.args.limits corner lattice) s.known.tellings.items t is.known.told one) is.pointed.rising is.pointed.told in
    let same : length c.into_points.result.items ≡ length s.points.items = ap (λ v. length v.items) c.into_points.ensures in
    omega (arith, few, same, c.in_ok-take_turns.ensures.count)

pub returns-in_default-clause-live : goal.returns-in_default-clause-live
returns-in_default-clause-live g c = λ n rises. counts-none (g.F.Firing.net c.args.net.now) c.args.limits n (omega (arith, rises))

pub returns-clause-live : goal.returns-clause-live
returns-clause-live g c =
    let net = g.F.Firing.net c.args.net.now in
    let corner = c.in_ok-corner.corner.capacities in
    let s = c.take_turns.new.searching in
    let base : IsGround net c.args.limits c.in_ok-corner.corner.capacities c.in_ok-lattice.lattice = record { laws = c.know_laws.ensures; explorable = c.requires.net; small = c.requires.total; is_corner = c.in_ok-corner.ensures; axes = c.in_ok-lattice.ensures.axes; limit = c.in_ok-lattice.ensures.limit } in
    λ n rises. counts-live net c.args.limits corner c.in_ok-lattice.lattice base s.below s.known c.in_ok-take_turns.ensures.over.standing.known n (omega (arith, rises, c.in_ok-take_turns.ensures.count))

pub returns-in_default-clause-entered : goal.returns-in_default-clause-entered
returns-in_default-clause-entered g c = λ n rises. evaluating-none (g.F.Firing.net c.args.net.now) c.args.limits (g.G.Gate.entered c.args.gate.now) n (omega (arith, rises))

pub returns-clause-entered : goal.returns-clause-entered
returns-clause-entered g c =
    let net = g.F.Firing.net c.args.net.now in
    let entered = g.G.Gate.entered c.args.gate.now in
    let corner = c.in_ok-corner.corner.capacities in
    let s = c.take_turns.new.searching in
    let base : IsGround net c.args.limits c.in_ok-corner.corner.capacities c.in_ok-lattice.lattice = record { laws = c.know_laws.ensures; explorable = c.requires.net; small = c.requires.total; is_corner = c.in_ok-corner.ensures; axes = c.in_ok-lattice.ensures.axes; limit = c.in_ok-lattice.ensures.limit } in
    λ n rises. evaluating-known net c.args.limits corner c.in_ok-lattice.lattice base s.below s.known c.in_ok-take_turns.ensures.over.standing.known entered
    (c.in_ok-take_turns.ensures.entered (enters-none net entered corner c.in_ok-searching.searching.known.tellings.items c.in_ok-searching.ensures.none)) n (omega (arith, rises, c.in_ok-take_turns.ensures.count))
