use Rattle.sd_base.proofs.ContainedHavePlaces.{get-contains}
use Rattle.pareto_search.proofs.stops.stop_towards.Goals as goal

pub unreachable-requires : goal.unreachable-requires
unreachable-requires c =
    let held = rw c.in-Held.is at c.in_ok-stop.ensures in
    c.requires.goal.free held.0 (get-contains c.args.tellings.now c.in-Held.field-0 held.0 held.1) held.3
