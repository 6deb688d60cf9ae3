use Rattle.std.proofs.Common.{ℕ, ◌<◌, List, subst, arith}
use Rattle.covers.specs.Lattices.{IsAmong, storage_of}
use Rattle.walks.specs.Walks.{HoldsWalk, StopsAt}
use Rattle.walks.proofs.WalkEnds.{goal-covered}
use Rattle.pareto_search.proofs.WalksReach.{under-among}
use Rattle.pareto_search.proofs.stops.walk_to.Goals as goal

pub unreachable-requires : goal.unreachable-requires
unreachable-requires c =
    let stops : StopsAt c.args.lattice.now.axes c.args.tellings.now c.args.goal.now c.in-Stopped.capacities c.in-Stopped.by = rw c.in-Stopped.is at c.in_ok-place.ensures in
    let among : IsAmong c.args.lattice.now c.in-Stopped.capacities = under-among c.args.lattice.now c.args.goal.now c.in-Stopped.capacities c.requires.goal stops.on stops.below in
    let over : c.args.lattice.now.limit < storage_of c.args.lattice.now.axes c.in-Stopped.capacities = subst (λ (ks : List ℕ). c.args.lattice.now.limit < storage_of c.args.lattice.now.axes ks) c.as_slice.ensures c.in_default.ensures in
    omega (arith, over, among.within)

pub returns-in-Held : goal.returns-in-Held
returns-in-Held c =
    let held = rw c.in-Held.is at c.in_ok-place.ensures in
    let walk : HoldsWalk c.args.lattice.now.axes c.args.tellings.now c.args.goal.now held.0 = held.2 in (
      held.0,
      held.1,
      λ channel. (let low = walk.holds.most channel in let high = walk.below channel in omega (arith, low, high)),
      goal-covered c.args.lattice.now.axes c.args.tellings.now c.args.goal.now held.0 held.2,
    )
